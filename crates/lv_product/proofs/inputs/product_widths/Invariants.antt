use Rattle.std.proofs.Common.{◌≡◌, ◌++◌}
use Rattle.lv_netlist.specs.Queries.{register_widths, port_widths, repeated}
use Rattle.lv_product.proofs.inputs.product_widths.Given as goal

abbrev pub invariant-loop-k : goal.invariant-loop-k
invariant-loop-k l = l.all.items ≡ register_widths l.graph ++ register_widths l.graph ++ repeated l._k (port_widths l.graph)
