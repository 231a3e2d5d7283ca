use Rattle.std.proofs.Common.{◌≡◌, length}
use Rattle.lv_exprs.specs.Steps.{lower}
use Rattle.lv_exprs.proofs.steps.reduce.Given as goal

abbrev pub invariant-loop-frame : goal.invariant-loop-frame
invariant-loop-frame l = lower l.pull l.stack.frames.items l.x ≡ lower l.pull l.fn.stack.frames.items l.fn.x

abbrev pub decreases-loop-frame : goal.decreases-loop-frame
decreases-loop-frame l = length l.stack.frames.items
