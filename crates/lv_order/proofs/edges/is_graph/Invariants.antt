use Rattle.lv_order.proofs.Rows.{RowsBefore}
use Rattle.lv_order.proofs.edges.is_graph.Given as goal

abbrev pub invariant-loop-row : goal.invariant-loop-row
invariant-loop-row l = RowsBefore l.edges l.row-index
