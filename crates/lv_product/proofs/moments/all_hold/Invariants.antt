use Rattle.std.proofs.Common.{take}
use Rattle.std.specs.List.{list_all}
use Rattle.lv_unroll.specs.Wires.{is_on, GivesTest}
use Rattle.lv_product.specs.Values.{values_in, holds_at}
use Rattle.lv_product.proofs.moments.all_hold.Given as goal

abbrev pub invariant-loop-k : goal.invariant-loop-k
invariant-loop-k l = GivesTest l.fn.b l.b l.all (λ ws. list_all (holds_at l.candidates (values_in l.fn.b l.left ws) (values_in l.fn.b l.right ws)
    (is_on l.fn.b ws l.aligned)) (take l.k l.numbers))
