use Rattle.std.proofs.Common.{if◌then◌else◌, map, take}
use Rattle.lv_unroll.specs.Wires.{is_on, number_in}
use Rattle.lv_unroll.specs.Slots.{GivesNumbers}
use Rattle.lv_unroll.proofs.slots.chosen_values.Given as goal

abbrev pub invariant-loop-k : goal.invariant-loop-k
invariant-loop-k l = GivesNumbers l.fn.b l.b l.k l.values.items (λ ws. if is_on l.fn.b ws l.c then map (number_in l.fn.b ws) (take l.k l.xs) else map
    (number_in l.fn.b ws) (take l.k l.ys))
