use Rattle.std.proofs.Common.{ap, ◌∙◌, ◌++◌, List}
use Rattle.lv_extents.specs.declared.extent.Aim.{Aim}
use Rattle.lv_extents.specs.declared.extent.Step.{Step}
use Rattle.lv_extents.specs.Blocks.{aim_spans}
use Rattle.lv_extents.proofs.Lists.{flat-more, grow-none}
use Rattle.lv_extents.proofs.parts.step_bits.Goals as goal

pub loop-step-preserved : goal.loop-step-preserved
loop-step-preserved c =
    grow-none (aim_spans c.step-item.result.aims) (c.in_ok-add_bits.ensures ∙ ap (λ (xs : List Aim). c.loop-step.into ++ aim_spans xs) c.as_slice.ensures) c.loop-step.invariant
    (flat-more (λ (s : Step). aim_spans s.aims) c.args.steps.now c.loop-step.step-index c.step-item.result c.loop-step-test.true c.step-item.is)
