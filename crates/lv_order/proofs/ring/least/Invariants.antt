use Rattle.std.proofs.Common.{ℕ, ◌<◌, ◌≤◌, length, slice_index}
use Rattle.lv_order.proofs.ring.least.Given as goal

abbrev pub invariant-loop-k : goal.invariant-loop-k
invariant-loop-k l = record { within : l.best < length l.list; least : (k : ℕ) → k < l.k → slice_index l.list l.best ≤ slice_index l.list k }
