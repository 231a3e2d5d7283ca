use Rattle.std.proofs.Common.{◌≡◌, take}
use Rattle.lv_lower.specs.Nexts.{with_nexts}
use Rattle.lv_lower.proofs.nexts.set_nexts.Given as goal

abbrev pub invariant-loop-k : goal.invariant-loop-k
invariant-loop-k l = l.b ≡ with_nexts l.initial.b (take l.k l.slots) (take l.k l.done)
