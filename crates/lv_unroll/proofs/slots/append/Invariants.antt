use Rattle.std.proofs.Common.{length}
use Rattle.lv_unroll.proofs.Slotting.{Appending}
use Rattle.lv_unroll.proofs.slots.append.Given as goal

abbrev pub invariant-loop-slot : goal.invariant-loop-slot
invariant-loop-slot l = Appending l.fn.b l.b (length l.values) l.on l.before l.values l.slots l.out.items l.slot-index
