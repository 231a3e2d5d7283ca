use Rattle.std.proofs.Common.{◌≡◌, ℕ, ◌<◌, true, ◌⊎◌}
use Rattle.std.specs.Prelude.{slice_get, Some}
use Rattle.lv_clauses.specs.Literals.{Lit, has, negated}
use Rattle.lv_session.specs.Keeping.{is_used}
use Rattle.lv_session.proofs.keep.lifted.Given as goal

abbrev pub invariant-loop-k : goal.invariant-loop-k
invariant-loop-k l = record {
  own : (x : Lit) → has l.line x ≡ true → has l.lits.items x ≡ true;
  used : (i : ℕ) (a : Lit) → i < l.k → slice_get l.assumed i ≡ Some a → is_used l.row i ≡ true → has l.lits.items (negated a) ≡ true;
  only : (x : Lit) → has l.lits.items x ≡ true → (has l.line x ≡ true) ⊎ ((i : ℕ) × (a : Lit) × (slice_get l.assumed i ≡ Some a) × (negated a ≡ x));
}
