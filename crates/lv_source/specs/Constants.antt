-- The constants that are declared before a place, as a list: a name with its constant, or with none; the last entry of a name counts.
use Rattle.std.specs.Prelude.{ℕ, true, if◌then◌else◌, List, [], ◌∷◌, ◌++◌, map, take, reverse, bytes_eq, Bool, Option, Some, None, find, flat_map}
use Rattle.lv_ast.specs.declared.stmt.Ident.{Ident}
use Rattle.lv_ast.specs.declared.item.Item.{Item}
use Rattle.lv_ast.specs.declared.item.Module.{Module}
use Rattle.lv_ast.specs.Names.{Name, has_no_steps, alone}
use Rattle.lv_source.specs.Names.{Names, Here, Declared}
use Rattle.lv_source.specs.Effect.{with_index}
use Rattle.lv_source.specs.Declarations.{Declaration}
use Rattle.lv_source.specs.Scopes.{Scope, Override, is_parameter, no_names, module_scope, turn_scope}
use Rattle.lv_source.specs.NodeRules.{is_early}

pub record Entry : Type 0 where
  pub name : Name
  pub value : Option Declared

abbrev pub entry_value : Option Entry → Option Declared
entry_value None = None
entry_value (Some e) = e.value

-- that of the last entry of the name
abbrev pub last_value : List Entry → Name → Option Declared
last_value es name = entry_value (find (λ e. bytes_eq e.name name) (reverse es))

abbrev pub entry_names : List Entry → Names
entry_names es p = if has_no_steps p then last_value es p.name else None

abbrev pub early_or_none : Bool → Option Declared → Option Declared
early_or_none early o = if is_early early o then o else None

-- the constants among the names at a place that are declared before it
abbrev pub early_constants : Here → Names
early_constants here p = early_or_none (here.early p) (here.names p)

-- a declared name hides what stands around, before it has a value too
abbrev pub hidden : Declaration → Entry
hidden d = record { name = d.name.name; value = None }

abbrev pub parameter_entry : Scope → Declaration → List Entry
parameter_entry s d = if is_parameter d then record { name = d.name.name; value = early_or_none true (s.names (alone d.name.name)) } ∷ [] else []

-- the constants where so many declarations of a scope stand before, with those around the scope
abbrev pub entry_constants : List Entry → Scope → ℕ → List Entry
entry_constants around s k = around ++ map hidden s.declarations ++ flat_map (parameter_entry s) (take k s.declarations)

abbrev pub index_entry : Name → ℕ → Entry
index_entry index value = record { name = index; value = with_index no_names index value (alone index) }

-- the constants around a scope: a module has none, a turn of a loop those before the loop and the index
pub data Around : Scope → List Entry → Type 0 where
  in_module : (path : Name) (top : Bool) (around : List Name) (os : List Override) (clocks : Names → List Name) (m : Module) →
      Around (module_scope path top around os clocks m) []
  in_turn : (s : Scope) (es : List Entry) (k : ℕ) (index label : Ident) (items : List Item) (value : ℕ) → Around s es →
      Around (turn_scope s k index label items value) (entry_constants es s k ++ index_entry index.name value ∷ [])
