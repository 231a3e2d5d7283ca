use Rattle.std.proofs.Common.{◌≡◌, length}
use Rattle.lv_test_learning.proofs.tasks.texts.Given as goal

abbrev pub invariant-loop-k : goal.invariant-loop-k
invariant-loop-k l = length l.texts.items ≡ l._k
