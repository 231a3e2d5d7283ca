use Rattle.std.proofs.Common.{take}
use Rattle.std.specs.Prelude.{None, IsTrue}
use Rattle.lv_clauses.specs.Literals.{Lit, has}
use Rattle.lv_trail.specs.Trail.{IsReasonOf}
use Rattle.lv_solver.specs.Seen.{is_seen}
use Rattle.lv_solver.proofs.marked.are_decisions.Given as goal

abbrev pub invariant-loop-x : goal.invariant-loop-x
invariant-loop-x l = (m : Lit) → IsTrue (has (take l.x-index l.x-items) m) → IsTrue (is_seen l.seen m.var) → IsReasonOf l.trail.entries m.var None
