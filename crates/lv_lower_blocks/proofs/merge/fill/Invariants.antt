use Rattle.std.proofs.Common.{◌≡◌, ◌++◌, take, drop}
use Rattle.lv_lower_blocks.proofs.merge.fill.Given as goal

abbrev pub invariant-loop-i : goal.invariant-loop-i
invariant-loop-i l = l.table ≡ take l.i l.other ++ drop l.i l.initial.table
