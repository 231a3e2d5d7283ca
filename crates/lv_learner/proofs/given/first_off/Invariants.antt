use Rattle.std.proofs.Common.{◌≡◌, ◌<◌, ℕ, true, slice_index, ◌&&◌}
use Rattle.lv_product.specs.Values.{is_met}
use Rattle.lv_learner.proofs.given.first_off.Given as goal

abbrev pub invariant-loop-k : goal.invariant-loop-k
invariant-loop-k l = (j : ℕ) → j < l.k → (is_met l.left.values (slice_index l.nodes j) && is_met l.right.values (slice_index l.nodes j)) ≡ true
