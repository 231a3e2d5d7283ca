use Rattle.std.proofs.Common.{◌<◌, ◌++◌, length, ap, sym, ◌∙◌, arith}
use Rattle.lv_schedule.specs.Drivers.{part_drivers}
use Rattle.lv_schedule.proofs.Driven.{drivers_more}
use Rattle.lv_schedule.proofs.drivers.drivers.Goals as goal

pub loop-part-preserved : goal.loop-part-preserved
loop-part-preserved c =
    let l : c.loop-part.part < length c.args.extents.now = omega arith in
    c.in_ok-list.ensures ∙ (ap (λ z. z ++ part_drivers c.loop-part.part c.index-extents-part.result) c.loop-part.invariant ∙
    sym (drivers_more c.args.extents.now c.loop-part.part c.index-extents-part.result l c.index-extents-part.is))
