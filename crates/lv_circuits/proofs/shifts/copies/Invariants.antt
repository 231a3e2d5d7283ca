use Rattle.std.proofs.Common.{◌≡◌, replicate}
use Rattle.lv_circuits.proofs.shifts.copies.Given as goal

abbrev pub invariant-loop : goal.invariant-loop
invariant-loop l = l.out ≡ replicate l.counter l.e
