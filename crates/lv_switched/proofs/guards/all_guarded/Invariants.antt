use Rattle.std.proofs.Common.{length, take}
use Rattle.std.specs.List.{list_all, range_with_len}
use Rattle.lv_unroll.specs.Wires.{GivesTest}
use Rattle.lv_switched.proofs.Guarding.{unless_off, held}
use Rattle.lv_switched.proofs.guards.all_guarded.Given as goal

abbrev pub invariant-loop-k : goal.invariant-loop-k
invariant-loop-k l = GivesTest l.fn.b l.b l.all (λ ws. list_all (unless_off l.from (held l.candidates l.fn.b l.left l.right l.aligned) ws)
    (take l.k (range_with_len 0 (length l.candidates))))
