use Rattle.std.proofs.Common.{◌≡◌, ℕ, length}
use Rattle.std.specs.Prelude.{slice_get, Some}
use Rattle.lv_first.specs.declared.formula.Formula.{Formula}
use Rattle.lv_first.specs.declared.formula.Formula.TheVariants.{Variable}
use Rattle.lv_first.proofs.next.unchanged.Given as goal

abbrev pub invariant-loop-k : goal.invariant-loop-k
invariant-loop-k l = record { count : length l.next ≡ l.k; each : (k : ℕ) (f : Formula) → slice_get l.next k ≡ Some f → f ≡ Variable k }
