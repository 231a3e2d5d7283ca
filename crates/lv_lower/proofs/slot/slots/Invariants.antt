use Rattle.std.proofs.Common.{◌≡◌, take}
use Rattle.lv_flat.specs.Signals.{declared_all}
use Rattle.lv_lower.specs.Slots.{all_slots, views_of, AreCounts}
use Rattle.lv_lower.proofs.slot.slots.Given as goal

abbrev pub invariant-loop-k : goal.invariant-loop-k
invariant-loop-k l = record {
  slots : l.all.items ≡ all_slots (views_of l.flat) (take l.k (declared_all l.flat.signals));
  first : AreCounts (take l.k (declared_all l.flat.signals)) l.first.items;
}
