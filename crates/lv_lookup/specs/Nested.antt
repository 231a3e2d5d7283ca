-- The scopes whose names stand in a list of levels.
use Rattle.std.specs.Prelude.{◌≡◌, ℕ, ◌+◌, ◌<◌, List, Some, None, slice_get}
use Rattle.lv_ast.specs.declared.stmt.Ident.{Ident}
use Rattle.lv_ast.specs.declared.item.Item.{Item}
use Rattle.lv_source.specs.Names.{Declared}
use Rattle.lv_source.specs.Scopes.{Scope, turn_scope, no_names}
use Rattle.lv_source.specs.Effect.{with_index}
use Rattle.lv_flat.specs.Signals.{Signals}
use Rattle.lv_symbols.specs.Frames.{Frame, IsScope}
use Rattle.lv_bindings.specs.Standing.{IsTable}
use Rattle.lv_lookup.specs.declared.level.Level.{Level}
use Rattle.lv_lookup.specs.declared.level.Around.{Around}

-- the signals and clocks of a scope stand in the list of all from this number on
pub record HasSignals (S : Signals) (first : ℕ) (own : List Declared) : Type 0 where
  pub each : (k : ℕ) (d : Declared) → slice_get own k ≡ Some d → slice_get S (first + k) ≡ Some d

-- the level has the names of this scope
pub record HasNames (S : Signals) (l : Level) (f : Frame) : Type 0 where
  pub first : ℕ
  pub own : List Declared
  pub scope : IsScope f
  pub table : IsTable first own l.table f
  pub signals : HasSignals S first own

-- the level with this number is that of a module, with nothing around it, or of a turn of a loop in the scope of an earlier level
pub data IsNested (S : Signals) (levels : List Level) : ℕ → Scope → Type 0 where
  module_at : (at : ℕ) (l : Level) (f : Frame) → slice_get levels at ≡ Some l → l.around ≡ None → f.base ≡ no_names → HasNames S l f → IsNested S levels at f.scope
  turn_at : (at : ℕ) (l : Level) (a : Around) (f : Frame) (s : Scope) (k : ℕ) (index label : Ident) (items : List Item) (value : ℕ) →
      slice_get levels at ≡ Some l → l.around ≡ Some a → a.index.now ≡ index.name → a.scope < at → IsNested S levels a.scope s →
      f.scope ≡ turn_scope s k index label items value → f.base ≡ with_index s.names index.name value → HasNames S l f → IsNested S levels at f.scope
