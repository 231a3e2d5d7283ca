use Rattle.lv_reach.specs.Spreading.{IsDrivenBelow}
use Rattle.lv_reach.proofs.signals.driven.Given as goal

abbrev pub invariant-loop-x : goal.invariant-loop-x
invariant-loop-x l = IsDrivenBelow l.extents l.x-index l.set
