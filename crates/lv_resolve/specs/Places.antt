-- Where an expression stands: what its names stand for.
use Rattle.std.specs.Prelude.{◌≡◌, ℕ, true, false, List, Option, Some, None}
use Rattle.lv_ast.specs.declared.expr.Path.{Path}
use Rattle.lv_source.specs.Names.{Here, known}
use Rattle.lv_source.specs.Parts.{is_declared_sort}
use Rattle.lv_const.specs.declared.consts.Entry.{Entry}
use Rattle.lv_const.specs.Constants.{names_of}
use Rattle.lv_const.specs.Wherever.{AreDeclared}
use Rattle.lv_flat.specs.Signals.{Signals, signal_at}

-- the same names, with all constants declared before
abbrev pub with_all : Here → Here
with_all here = record { names = here.names; early = λ p. true }

-- a name that is found stands for that signal or clock; the constants are those of the lists, all that can be read and those that are declared before
pub record AreNames (S : Signals) (find : Path → Option ℕ) (all early : List Entry) (here : Here) : Type 0 where
  pub found : (p : Path) (k : ℕ) → find p ≡ Some k → here.names p ≡ Some (signal_at S k)
  pub declared : (p : Path) (k : ℕ) → find p ≡ Some k → is_declared_sort (signal_at S k).sort ≡ true
  pub absent : (p : Path) → find p ≡ None → is_declared_sort (known (here.names p)).sort ≡ false
  pub constants : AreDeclared (names_of all) (with_all here)
  pub ahead : AreDeclared (names_of early) here
