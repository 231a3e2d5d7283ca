use Rattle.std.proofs.Common.{◌≡◌, ◌<◌, ℕ, true, slice_index}
use Rattle.lv_product.specs.Values.{is_same}
use Rattle.lv_learner.proofs.given.first_differing.Given as goal

abbrev pub invariant-loop-k : goal.invariant-loop-k
invariant-loop-k l = (j : ℕ) → j < l.k → is_same l.left.values l.right.values (slice_index l.nodes j) ≡ true
