use Rattle.std.proofs.Common.{refl}
use Rattle.lv_flat.specs.Signals.{declared_all}
use Rattle.lv_extents.proofs.Spans.{adds-from, adds-then}
use Rattle.lv_extents.proofs.Events.{look-adds}
use Rattle.lv_extents.proofs.steps.add_look.Goals as goal

pub returns : goal.returns
returns c =
    let S = declared_all c.args.signals.now in
    look-adds S c.args.steps.now c.push.new.self _ _ (adds-from S c.new-reads.result _ _ c.new-reads.ensures (adds-then S c.in_ok-add_reads.ensures.reads c.in_ok-add_label_reads.ensures))
    c.new.ensures refl refl c.in_ok-push.ensures.ok
