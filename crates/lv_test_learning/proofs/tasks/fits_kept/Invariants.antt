use Rattle.std.proofs.Common.{ℕ, ◌+◌, ◌<◌, length, slice_index}
use Rattle.lv_test_learning.proofs.tasks.fits_kept.Given as goal

abbrev pub invariant-loop-k : goal.invariant-loop-k
invariant-loop-k l = record {
  within : (j : ℕ) → j < l.k → slice_index l.numbers j < length l.task.candidates.items;
  rising : (j : ℕ) → j < l.k → j + 1 < length l.numbers → slice_index l.numbers j < slice_index l.numbers (j + 1);
}
