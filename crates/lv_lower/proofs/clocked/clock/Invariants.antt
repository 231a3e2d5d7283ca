use Rattle.std.proofs.Common.{take}
use Rattle.lv_overlays.specs.Writes.{all_writes_on}
use Rattle.lv_lower.specs.Slots.{names_of}
use Rattle.lv_lower.specs.Clocking.{Overwrites}
use Rattle.lv_lower.proofs.clocked.clock.Given as goal

abbrev pub invariant-loop-part : goal.invariant-loop-part
invariant-loop-part l = Overwrites l.initial.b l.b (names_of l.flat) l.table l.initial.done l.done (all_writes_on (names_of l.flat) (take l.part-index l.part-items))
