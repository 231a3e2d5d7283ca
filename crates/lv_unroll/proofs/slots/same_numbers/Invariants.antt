use Rattle.std.proofs.Common.{map, take}
use Rattle.lv_unroll.specs.Wires.{number_in, GivesTest}
use Rattle.lv_unroll.specs.Slots.{same_values}
use Rattle.lv_unroll.proofs.slots.same_numbers.Given as goal

abbrev pub invariant-loop-k : goal.invariant-loop-k
invariant-loop-k l = GivesTest l.fn.b l.b l.all (λ ws. same_values (map (number_in l.fn.b ws) (take l.k l.xs)) (map (number_in l.fn.b ws) (take l.k l.ys)))
