use Rattle.lv_order.specs.Graphs.{graph}
use Rattle.lv_schedule.specs.Tables.{AreRows}
use Rattle.lv_schedule.proofs.rows.with_hubs.Given as goal

abbrev pub invariant-loop-s : goal.invariant-loop-s
invariant-loop-s l = AreRows l.extents l.count l.s (graph l.made.items)
