use Rattle.std.proofs.Common.{◌≡◌, take}
use Rattle.lv_extents.specs.Blocks.{step_spans}
use Rattle.lv_extents.proofs.parts.step_reads.Given as goal

abbrev pub invariant-loop-step : goal.invariant-loop-step
invariant-loop-step l = l.into ≡ step_spans (take l.step-index l.steps)
