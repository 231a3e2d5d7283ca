use Rattle.std.proofs.Common.{◌≡◌, ◌+◌, ◌*◌}
use Rattle.lv_product.specs.Opening.{ranges, lists_of}
use Rattle.lv_product.proofs.inputs.cycle_nodes.Given as goal

abbrev pub invariant-loop-k : goal.invariant-loop-k
invariant-loop-k l = record { lists : lists_of l.nodes.items ≡ ranges l.from l.count l._k; at_is : l.at ≡ l.from + l._k * l.count }
