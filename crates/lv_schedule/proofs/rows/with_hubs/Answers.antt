use Rattle.std.proofs.Common.{◌∙◌, ap, arith}
use Rattle.lv_order.specs.Graphs.{graph}
use Rattle.lv_schedule.specs.Drivers.{drivers_of}
use Rattle.lv_schedule.proofs.Edges.{graph_pushed, rows_more, hub_graph}
use Rattle.lv_schedule.proofs.rows.with_hubs.Goals as goal

pub loop-s-preserved : goal.loop-s-preserved
loop-s-preserved c =
    rows_more c.args.extents.now c.args.count c.loop-s.s (graph c.loop-s.made.items) (graph c.push.new.self.items) c.in_ok-row.row.items
    (ap graph c.in_ok-push.ensures.items ∙ graph_pushed c.loop-s.made.items c.in_ok-row.row) (c.in_ok-row.ensures (drivers_of 0 c.args.extents.now) c.requires.tables)
    c.loop-s.invariant

pub returns : goal.returns
returns c = hub_graph c.args.extents.now c.args.count c.loop-s.s (graph c.loop-s.made.items) (omega arith) c.loop-s.invariant
