use Rattle.lv_order.specs.Graphs.{graph}
use Rattle.lv_order.specs.Walks.{walks, rest}
use Rattle.lv_order.proofs.walk.Walk.run.Given as goal

abbrev pub invariant-turns : goal.invariant-turns
invariant-turns l = walks (graph l.edges) l.self

abbrev pub decreases-turns : goal.decreases-turns
decreases-turns l = rest (graph l.edges) l.self
