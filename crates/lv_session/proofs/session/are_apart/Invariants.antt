use Rattle.std.proofs.Common.{◌≡◌, ℕ, ◌<◌}
use Rattle.std.specs.Prelude.{slice_get, Some}
use Rattle.lv_clauses.specs.Literals.{Lit}
use Rattle.lv_session.proofs.session.are_apart.Given as goal

abbrev pub invariant-loop-k : goal.invariant-loop-k
invariant-loop-k l = (i j : ℕ) (a b : Lit) → i < l.k → j < l.k → slice_get l.lits i ≡ Some a → slice_get l.lits j ≡ Some b → a.var ≡ b.var → i ≡ j
