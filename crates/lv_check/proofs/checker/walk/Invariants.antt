use Rattle.std.proofs.Common.{◌≡◌, ◌+◌, List, drop}
use Rattle.lv_clauses.specs.Derivations.{known_at, walks}
use Rattle.lv_check.specs.Marks.{Tells, AreBelow}
use Rattle.lv_check.proofs.checker.walk.Given as goal
use Rattle.lv_clauses.specs.Literals.{Lit}

abbrev pub invariant-loop-i : goal.invariant-loop-i
invariant-loop-i l = record {
  told : (t : List Lit) → Tells l.fn.marks (l.k + 1) t →
      (u : List Lit) × Tells l.marks (l.k + 1) u × (walks (known_at l.set.clauses l.derivation l.k) l.hints t ≡ walks (known_at l.set.clauses l.derivation l.k) (drop l.i l.hints) u);
  upto : AreBelow l.marks (l.k + 2);
}
