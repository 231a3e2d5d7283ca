use Rattle.std.proofs.Common.{ap, ◌∙◌, ◌++◌, List}
use Rattle.lv_spans.specs.declared.span.Span.{Span}
use Rattle.lv_extents.specs.declared.extent.Step.{Step}
use Rattle.lv_extents.proofs.Lists.{flat-more, grow-none}
use Rattle.lv_extents.proofs.parts.step_reads.Goals as goal

pub loop-step-preserved : goal.loop-step-preserved
loop-step-preserved c =
    grow-none c.step-item.result.reads (c.in_ok-add_spans.ensures ∙ ap (λ (xs : List Span). c.loop-step.into ++ xs) c.as_slice.ensures) c.loop-step.invariant
    (flat-more (λ (s : Step). s.reads) c.args.steps.now c.loop-step.step-index c.step-item.result c.loop-step-test.true c.step-item.is)
