use Rattle.std.proofs.Common.{refl}
use Rattle.lv_flat.specs.Signals.{declared_all}
use Rattle.lv_flat.specs.Judged.{reading}
use Rattle.lv_flat.specs.Executing.{pieces}
use Rattle.lv_extents.specs.Extents.{IsAim}
use Rattle.lv_extents.proofs.Spans.{adds-from, adds-then}
use Rattle.lv_extents.proofs.Lists.{each-from}
use Rattle.lv_extents.proofs.Events.{write-adds}
use Rattle.lv_extents.proofs.steps.add_write.Goals as goal

pub returns : goal.returns
returns c =
    let S = declared_all c.args.signals.now in
    write-adds S c.args.steps.now c.push.new.self c.args.at_once (pieces S c.args.t.now) (reading S c.args.x.now) c.args.place _
    (adds-from S c.new-reads.result _ _ c.new-reads.ensures (adds-then S c.in_ok-add_reads.ensures.reads c.in_ok-add_aims.ensures.reads))
    (each-from (IsAim S) c.new-aims.result _ _ c.new-aims.ensures c.in_ok-add_aims.ensures.aims) refl refl c.in_ok-push.ensures.ok
