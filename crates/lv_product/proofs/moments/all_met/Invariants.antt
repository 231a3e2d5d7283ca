use Rattle.std.proofs.Common.{take}
use Rattle.std.specs.List.{list_all}
use Rattle.lv_unroll.specs.Wires.{GivesTest}
use Rattle.lv_product.specs.Values.{values_in, is_met}
use Rattle.lv_product.proofs.moments.all_met.Given as goal

abbrev pub invariant-loop-k : goal.invariant-loop-k
invariant-loop-k l = GivesTest l.fn.b l.b l.all (λ ws. list_all (is_met (values_in l.fn.b l.table ws)) (take l.k l.nodes))
