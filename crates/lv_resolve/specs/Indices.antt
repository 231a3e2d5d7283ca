-- The indices of loops, where they stand outside of their own loop.
use Rattle.std.specs.Prelude.{◌≡◌, ℕ, Bool, true, false, not, ◌&&◌, if◌then◌else◌, List, Option, Some, None}
use Rattle.lv_ast.specs.declared.expr.Path.{Path}
use Rattle.lv_ast.specs.Names.{Name, has_no_steps}
use Rattle.lv_source.specs.Names.{Here}
use Rattle.lv_source.specs.ScopeRules.{is_none, is_index_of}
use Rattle.lv_const.specs.declared.consts.Entry.{Entry}
use Rattle.lv_const.specs.Constants.{names_of}
use Rattle.lv_flat.specs.Signals.{Signals}
use Rattle.lv_resolve.specs.Places.{AreNames}

-- an index that is a genvar, or one that is an integer
abbrev pub is_genvar : Bool → Option Bool → Bool
is_genvar genvar None = false
is_genvar genvar (Some g) = if g then genvar else not genvar

-- the indices outside of their own loop are those of the table that are no constants
pub record AreIndices (indices : Name → Option Bool) (all : List Entry) (here : Here) : Type 0 where
  pub same : (p : Path) (genvar : Bool) → has_no_steps p ≡ true →
      is_index_of genvar (here.names p) ≡ (is_genvar genvar (indices p.name) && is_none (names_of all p))

-- a place with these names and these indices
pub record IsAt (S : Signals) (find : Path → Option ℕ) (indices : Name → Option Bool) (all early : List Entry) (here : Here) : Type 0 where
  pub names : AreNames S find all early here
  pub indexed : AreIndices indices all here

-- at each such place
pub record Throughout (S : Signals) (find : Path → Option ℕ) (indices : Name → Option Bool) (all early : List Entry) (Holds : Here → Type 0) : Type 0 where
  pub at : (here : Here) → IsAt S find indices all early here → Holds here
