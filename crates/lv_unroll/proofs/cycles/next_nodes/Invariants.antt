use Rattle.std.proofs.Common.{◌≡◌, map, take}
use Rattle.lv_unroll.specs.Unrolls.{next_node}
use Rattle.lv_unroll.proofs.cycles.next_nodes.Given as goal

abbrev pub invariant-loop-k : goal.invariant-loop-k
invariant-loop-k l = l.nodes.items ≡ map (next_node l.table) (take l.k l.graph.registers)
