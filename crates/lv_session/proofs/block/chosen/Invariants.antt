use Rattle.std.proofs.Common.{◌≡◌, ℕ, ◌<◌, true}
use Rattle.std.specs.Prelude.{slice_get, Some}
use Rattle.lv_clauses.specs.Literals.{Lit, has}
use Rattle.lv_session.specs.Keeping.{is_used}
use Rattle.lv_session.specs.Session.{AreApart}
use Rattle.lv_session.proofs.block.chosen.Given as goal

abbrev pub invariant-loop-k : goal.invariant-loop-k
invariant-loop-k l = record {
  part : (x : Lit) → has l.lits.items x ≡ true → (i : ℕ) × (i < l.k) × (slice_get l.assumed i ≡ Some x);
  apart : AreApart l.lits.items;
  used : (i : ℕ) (a : Lit) → i < l.k → slice_get l.assumed i ≡ Some a → is_used l.row i ≡ true → has l.lits.items a ≡ true;
}
