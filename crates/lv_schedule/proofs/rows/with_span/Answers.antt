use Rattle.std.proofs.Common.{◌<◌, arith}
use Rattle.lv_schedule.specs.Drivers.{drivers_of}
use Rattle.lv_schedule.specs.Tables.{IsWhole}
use Rattle.lv_schedule.proofs.Edges.{add_hub, add_met}
use Rattle.lv_schedule.proofs.rows.with_span.Goals as goal

pub overflow_add-extents : goal.overflow_add-extents
overflow_add-extents c =
    let w : IsWhole (drivers_of 0 c.args.extents.now) c.args.count c.args.reader.part c.args.reader.alone c.args.r =
    c.is_whole.ensures c.if-is_whole.true (drivers_of 0 c.args.extents.now) c.args.reader.part c.args.reader.alone c.requires.tables c.requires.own in
    let b : c.args.r.signal < c.args.count = w.below in
    omega arith

pub returns-then-is_whole : goal.returns-then-is_whole
returns-then-is_whole c =
    add_hub c.args.extents.now c.args.count c.args.reader.part c.args.reader.alone c.args.r c.args.row.items c.push.new.self.items
    (c.is_whole.ensures c.if-is_whole.true (drivers_of 0 c.args.extents.now) c.args.reader.part c.args.reader.alone c.requires.tables c.requires.own) c.in_ok-push.ensures.items

pub returns : goal.returns
returns c =
    add_met c.args.extents.now c.args.count c.args.reader.part c.args.reader.alone c.args.r c.args.row.items c.in_ok-made.made.items
    (c.in_ok-made.ensures (drivers_of 0 c.args.extents.now) c.requires.tables)
