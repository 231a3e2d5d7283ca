use Rattle.std.proofs.Common.{◌≡◌, map, take}
use Rattle.lv_product.proofs.inputs.register_widths.Given as goal

abbrev pub invariant-loop-k : goal.invariant-loop-k
invariant-loop-k l = l.widths.items ≡ map (λ register. register.1.width) (take l.k l.graph.registers)
