use Rattle.std.proofs.Common.{◌≡◌, take}
use Rattle.lv_extents.specs.Blocks.{step_aim_spans}
use Rattle.lv_extents.proofs.parts.step_bits.Given as goal

abbrev pub invariant-loop-step : goal.invariant-loop-step
invariant-loop-step l = l.into ≡ step_aim_spans (take l.step-index l.steps)
