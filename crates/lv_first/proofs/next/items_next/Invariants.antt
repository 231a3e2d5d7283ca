use Rattle.std.proofs.Common.{◌++◌, take}
use Rattle.std.specs.Prelude.{bytes_eq}
use Rattle.std.specs.List.{IsDistinct}
use Rattle.lv_first.specs.Signals.{AreItemsNext}
use Rattle.lv_first.proofs.next.items_next.Given as goal

abbrev pub invariant-loop-item : goal.invariant-loop-item
invariant-loop-item l =
    IsDistinct bytes_eq (l.signals.registers ++ l.signals.inputs) →
    AreItemsNext l.clock l.signals.registers l.signals.inputs (take l.item-index l.items) l.progress.found l.progress.next
