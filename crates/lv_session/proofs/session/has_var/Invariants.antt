use Rattle.std.proofs.Common.{◌≡◌, ℕ, ◌<◌}
use Rattle.std.specs.Prelude.{slice_get, Some}
use Rattle.lv_clauses.specs.Literals.{Lit}
use Rattle.lv_session.proofs.session.has_var.Given as goal

abbrev pub invariant-loop-lit : goal.invariant-loop-lit
invariant-loop-lit l = (i : ℕ) (a : Lit) → i < l.lit-index → slice_get l.lits i ≡ Some a → a.var ≡ l.var → ⊥
