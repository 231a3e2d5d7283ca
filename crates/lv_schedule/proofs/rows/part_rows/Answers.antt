use Rattle.std.proofs.Common.{ap, sym, subst, ◌∙◌}
use Rattle.lv_order.specs.Graphs.{graph}
use Rattle.lv_schedule.specs.Tables.{ArePartRows}
use Rattle.lv_schedule.proofs.Edges.{graph_pushed, part_rows_none, part_rows_more}
use Rattle.lv_schedule.proofs.rows.part_rows.Goals as goal

pub loop-part-init : goal.loop-part-init
loop-part-init c =
    subst (ArePartRows c.args.extents.now c.args.count 0) (sym (ap graph c.new-rows.ensures.items)) (part_rows_none c.args.extents.now c.args.count)

pub loop-part-preserved : goal.loop-part-preserved
loop-part-preserved c =
    part_rows_more c.args.extents.now c.args.count c.loop-part.part (graph c.loop-part.rows.items) (graph c.push.new.self.items) c.in_ok-row.row.items
    (ap graph c.in_ok-push.ensures.items ∙ graph_pushed c.loop-part.rows.items c.in_ok-row.row) c.in_ok-row.ensures c.loop-part.invariant
