use Rattle.std.proofs.Common.{◌≡◌, ℕ, ◌+◌, ◌<◌, true, false, []}
use Rattle.std.specs.Prelude.{slice_get, Some}
use Rattle.lv_clauses.specs.Derivations.{Step, HasEmpty}
use Rattle.lv_check.specs.Answer.{FollowsAt}
use Rattle.lv_check.specs.Marks.{AreBelow}
use Rattle.lv_check.proofs.checker.run.Given as goal

abbrev pub invariant-loop-k : goal.invariant-loop-k
invariant-loop-k l = record {
  before : (j : ℕ) → j < l.k → FollowsAt l.set l.derivation j;
  found : l.empty ≡ true → HasEmpty l.derivation;
  none : l.empty ≡ false → (j : ℕ) (s : Step) → j < l.k → slice_get l.derivation j ≡ Some s → s.clause ≡ [] → ⊥;
  fresh : AreBelow l.marks (l.k + 1);
}
