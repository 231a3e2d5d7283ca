use Rattle.lv_unroll.specs.Wires.{GivesTest}
use Rattle.lv_unroll.proofs.Slotting.{flags_so_far}
use Rattle.lv_unroll.proofs.slots.same_count.Given as goal

abbrev pub invariant-loop-k : goal.invariant-loop-k
invariant-loop-k l = GivesTest l.fn.b l.b l.all (flags_so_far l.fn.b l.left l.right l.k)
