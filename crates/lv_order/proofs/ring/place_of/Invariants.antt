use Rattle.std.proofs.Common.{◌≡◌, ◌<◌, ◌-◌, true, length, drop}
use Rattle.lv_order.specs.Graphs.{has}
use Rattle.lv_order.proofs.ring.place_of.Given as goal

abbrev pub invariant-loop-at : goal.invariant-loop-at
invariant-loop-at l = record { within : l.at < length l.list; rest : has (drop l.at l.list) l.v ≡ true }

abbrev pub decreases-loop-at : goal.decreases-loop-at
decreases-loop-at l = length l.list - l.at
