use Rattle.std.proofs.Common.{◌≡◌, true, take}
use Rattle.lv_distinct.specs.Small.{are_small}
use Rattle.lv_distinct.proofs.arrays_are_small.Given as goal

abbrev pub invariant-loop-signal : goal.invariant-loop-signal
invariant-loop-signal l = are_small (take l.signal-index l.signals) ≡ true
