use Rattle.std.proofs.Common.{take}
use Rattle.lv_unroll.specs.Wires.{GivesTest}
use Rattle.lv_unroll.specs.Slots.{same_places, places_in}
use Rattle.lv_unroll.proofs.slots.agree.Given as goal

abbrev pub invariant-loop-k : goal.invariant-loop-k
invariant-loop-k l = GivesTest l.fn.b l.b l.all (λ ws. same_places (places_in l.fn.b ws (take l.k l.left)) (places_in l.fn.b ws (take l.k l.right)))
