use Rattle.std.proofs.Common.{take}
use Rattle.lv_flat.specs.Signals.{declared_all}
use Rattle.lv_paths.proofs.Opening.{AllShut}
use Rattle.lv_paths.proofs.open.are_open.Given as goal

abbrev pub invariant-loop-span : goal.invariant-loop-span
invariant-loop-span l = AllShut (declared_all l.signals) l.written l.done.entries (take l.span-index l.spans)
