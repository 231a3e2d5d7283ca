use Rattle.std.proofs.Common.{◌≡◌, ◌≤◌, take, true}
use Rattle.lv_clauses.specs.Literals.{Lit, has, Rises}
use Rattle.lv_clauses.proofs.clause.is_clause.Given as goal

abbrev pub invariant-loop-x : goal.invariant-loop-x
invariant-loop-x l = record {
  rises : Rises 0 (take l.x-index l.lits);
  up_to : (m : Lit) → has (take l.x-index l.lits) m ≡ true → m.var ≤ l.last;
}
