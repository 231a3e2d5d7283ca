use Rattle.std.proofs.Common.{ap, ◌∙◌, refl}
use Rattle.lv_flat.specs.Signals.{declared_all}
use Rattle.lv_extents.specs.Extents.{IsStep}
use Rattle.lv_extents.specs.Blocks.{step_aim_spans, step_spans}
use Rattle.lv_extents.proofs.Lists.{each-from}
use Rattle.lv_extents.proofs.PartViews.{block-extent}
use Rattle.lv_extents.proofs.parts.block.Goals as goal

pub returns : goal.returns
returns c =
    let S = declared_all c.args.signals.now in
    let steps = each-from (IsStep S) c.new-steps.result _ _ c.new-steps.ensures c.in_ok-add_steps.ensures in
    block-extent S c.args.p.now _ c.in_ok-path.ensures refl (c.in_ok-clocks.ensures ∙ c.as_slice-3.ensures) c.args.s.now c.requires.is c.requires.way steps
    (c.in_ok-drives.ensures ∙ ap step_aim_spans c.as_slice.ensures) (c.in_ok-reads.ensures ∙ ap step_spans c.as_slice-2.ensures) c.new.ensures
    c.requires.latch c.requires.exposed
