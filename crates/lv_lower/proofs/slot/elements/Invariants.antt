use Rattle.std.proofs.Common.{◌≡◌, ◌++◌, ◌-◌, map}
use Rattle.std.specs.List.{range_with_len}
use Rattle.lv_lower.specs.Slots.{element_slot}
use Rattle.lv_lower.proofs.slot.elements.Given as goal

abbrev pub invariant-loop-index : goal.invariant-loop-index
invariant-loop-index l = l.slots.items ≡ l.initial.slots.items ++ map (element_slot l.path l.width l.kind) (range_with_len l.low (l.index - l.low))
