use Rattle.lv_unroll.specs.Entries.{entry_length}
use Rattle.lv_unroll.proofs.Rowing.{RowsSoFar}
use Rattle.lv_unroll.proofs.rows.append_row.Given as goal

abbrev pub invariant-loop-port : goal.invariant-loop-port
invariant-loop-port l = RowsSoFar l.fn.b l.b (entry_length l.ports) l.table l.ports l.fn.slots.items l.all.items l.port-index
