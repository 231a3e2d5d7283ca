use Rattle.std.proofs.Common.{◌≡◌, ◌++◌, take}
use Rattle.lv_first.specs.FirstForm.{register_items}
use Rattle.lv_first.proofs.prepare.push_items.Given as goal

abbrev pub invariant-loop-item : goal.invariant-loop-item
invariant-loop-item l = l.texts ≡ l.initial.texts ++ register_items (take l.item-index l.items)
