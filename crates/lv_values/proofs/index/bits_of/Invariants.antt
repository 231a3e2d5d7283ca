use Rattle.lv_values.specs.Worlds.{Grows}
use Rattle.lv_values.specs.Picked.{AreBits}
use Rattle.lv_values.proofs.index.bits_of.Given as goal

abbrev pub invariant-loop-i : goal.invariant-loop-i
invariant-loop-i l = Grows l.initial.b l.b × AreBits l.b l.x l.bits.items l.i
