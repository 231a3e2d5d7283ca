use Rattle.std.proofs.Common.{◌≤◌, ◌<◌, ◌^◌, ◌-◌, ℕ}
use Rattle.lv_circuits.proofs.shifts.stages.Given as goal

abbrev pub invariant-loop-stages : goal.invariant-loop-stages
invariant-loop-stages l = record { within : l.stages ≤ l.count; few : l.stages ≤ 7; near : (i : ℕ) → i < l.stages → 2 ^ i < l.width }

abbrev pub decreases-loop-stages : goal.decreases-loop-stages
decreases-loop-stages l = l.count - l.stages
