use Rattle.lv_clauses.proofs.Merging.{Merged}
use Rattle.lv_clauses.proofs.clause.merge.Given as goal

abbrev pub invariant-loop-x : goal.invariant-loop-x
invariant-loop-x l = Merged l.sorted l.x-index l.out.items l.last l.neg
