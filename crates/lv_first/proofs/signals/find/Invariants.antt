use Rattle.std.proofs.Common.{◌≡◌, false, take}
use Rattle.lv_first.specs.FirstForm.{is_in}
use Rattle.lv_first.proofs.signals.find.Given as goal

abbrev pub invariant-loop-k : goal.invariant-loop-k
invariant-loop-k l = is_in (take l.k l.names) l.name ≡ false
