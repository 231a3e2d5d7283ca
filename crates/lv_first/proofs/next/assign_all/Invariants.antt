use Rattle.std.proofs.Common.{[], take}
use Rattle.lv_first.specs.Signals.{IsNext}
use Rattle.lv_first.proofs.next.assign_all.Given as goal

abbrev pub invariant-loop-stmt : goal.invariant-loop-stmt
invariant-loop-stmt l =
    IsNext l.signals.registers l.signals.inputs [] l.fn.start → IsNext l.signals.registers l.signals.inputs (take l.stmt-index l.body) l.next
