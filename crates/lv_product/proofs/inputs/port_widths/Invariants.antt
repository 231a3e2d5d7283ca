use Rattle.std.proofs.Common.{◌≡◌, map, take}
use Rattle.lv_product.proofs.inputs.port_widths.Given as goal

abbrev pub invariant-loop-k : goal.invariant-loop-k
invariant-loop-k l = l.widths.items ≡ map (λ port. port.1) (take l.k l.graph.inputs)
