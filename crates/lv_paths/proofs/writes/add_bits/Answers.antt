use Rattle.std.proofs.Common.{ap, ◌∙◌, ◌++◌, List, take}
use Rattle.lv_extents.specs.Blocks.{aim_spans}
use Rattle.lv_spans.specs.declared.span.Span.{Span}
use Rattle.lv_extents.specs.declared.extent.Aim.{Aim}
use Rattle.lv_extents.proofs.Lists.{flat-more, grow}
use Rattle.lv_paths.proofs.writes.add_bits.Goals as goal

pub loop-aim-preserved : goal.loop-aim-preserved
loop-aim-preserved c =
    grow c.args.into.now c.aim-item.result.bits (aim_spans (take c.loop-aim.aim-index c.args.aims.now)) (c.in_ok-add_copies.ensures ∙ ap (λ (xs :
    List Span). c.loop-aim.into ++ xs) c.as_slice.ensures) c.loop-aim.invariant
    (flat-more (λ (a : Aim). a.bits) c.args.aims.now c.loop-aim.aim-index c.aim-item.result c.loop-aim-test.true c.aim-item.is)
