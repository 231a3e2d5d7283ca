use Rattle.lv_lower_blocks.specs.Rewritten.{Rewrites, chosen_at}
use Rattle.lv_lower_blocks.proofs.merge.merge.Given as goal

abbrev pub invariant-loop-i : goal.invariant-loop-i
invariant-loop-i l = Rewrites l.initial.b l.b l.initial.table l.table 0 l.i (chosen_at l.c l.initial.table l.other)
