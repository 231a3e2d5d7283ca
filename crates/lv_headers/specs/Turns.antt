-- A place in a loop, by the constants that can be read there.
use Rattle.std.specs.Prelude.{◌≡◌, ℕ, Bool, true, List, Option}
use Rattle.lv_ast.specs.declared.expr.Path.{Path}
use Rattle.lv_ast.specs.Names.{Name, alone}
use Rattle.lv_source.specs.Names.{Here}
use Rattle.lv_source.specs.ScopeRules.{is_index_of}
use Rattle.lv_source.specs.Standing.{at_turn}
use Rattle.lv_const.specs.declared.consts.Entry.{Entry}
use Rattle.lv_flat.specs.Signals.{Signals}
use Rattle.lv_resolve.specs.Indices.{IsAt}

-- wherever the name is an index outside of its own loop, the names with these constants are those of its turn with this value
pub record Enters (all early : List Entry) (index : Name) (value : ℕ) (new_all new_early : List Entry) : Type 0 where
  pub at : (S : Signals) (find : Path → Option ℕ) (indices : Name → Option Bool) (here : Here) (genvar : Bool) →
      is_index_of genvar (here.names (alone index)) ≡ true → IsAt S find indices all early here →
      IsAt S find indices new_all new_early (at_turn here index value)
