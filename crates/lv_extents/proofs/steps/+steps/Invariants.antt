use Rattle.std.proofs.Common.{map, take}
use Rattle.lv_source.specs.Views.{seen_of}
use Rattle.lv_flat.specs.Signals.{declared_all}
use Rattle.lv_flat.specs.Flows.{flow}
use Rattle.lv_extents.specs.Adds.{AddsSteps}
use Rattle.lv_extents.specs.Blocks.{all_events, arm_flow}
use Rattle.lv_extents.proofs.steps.+steps.Given as goal

abbrev pub invariant-add_block-loop-s : goal.invariant-add_block-loop-s
invariant-add_block-loop-s l = AddsSteps (declared_all l.signals) l.fn.steps l.steps (map seen_of (all_events (map (flow (declared_all l.signals)) (take l.s-index l.body))))

abbrev pub invariant-add_arms-loop-arm : goal.invariant-add_arms-loop-arm
invariant-add_arms-loop-arm l = AddsSteps (declared_all l.signals) l.fn.steps l.steps (map seen_of (all_events (map (arm_flow (declared_all l.signals)) (take l.arm-index l.arms))))
