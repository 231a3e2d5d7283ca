use Rattle.std.proofs.Common.{◌≡◌, take}
use Rattle.lv_lower_blocks.proofs.merge.copy.Given as goal

abbrev pub invariant-loop-k : goal.invariant-loop-k
invariant-loop-k l = l.copied.items ≡ take l.k-index l.table
