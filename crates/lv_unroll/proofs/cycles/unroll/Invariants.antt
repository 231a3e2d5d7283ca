use Rattle.lv_unroll.proofs.Unrolling.{CyclesSoFar}
use Rattle.lv_unroll.proofs.cycles.unroll.Given as goal

abbrev pub invariant-loop-cycle : goal.invariant-loop-cycle
invariant-loop-cycle l = CyclesSoFar l.graph l.fn.b l.b l.state l.now.items l.inputs l.tables.items l.cycle-index
