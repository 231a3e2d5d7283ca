use Rattle.lv_order.specs.Graphs.{graph}
use Rattle.lv_schedule.specs.Tables.{ArePartRows}
use Rattle.lv_schedule.proofs.rows.part_rows.Given as goal

abbrev pub invariant-loop-part : goal.invariant-loop-part
invariant-loop-part l = ArePartRows l.extents l.count l.part (graph l.rows.items)
