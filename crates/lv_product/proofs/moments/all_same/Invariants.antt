use Rattle.std.proofs.Common.{take}
use Rattle.std.specs.List.{list_all}
use Rattle.lv_unroll.specs.Wires.{GivesTest}
use Rattle.lv_product.specs.Values.{values_in, is_same}
use Rattle.lv_product.proofs.moments.all_same.Given as goal

abbrev pub invariant-loop-k : goal.invariant-loop-k
invariant-loop-k l = GivesTest l.fn.b l.b l.all (λ ws. list_all (is_same (values_in l.fn.b l.left ws) (values_in l.fn.b l.right ws)) (take l.k l.nodes))
