use Rattle.lv_flat.specs.Signals.{declared_all}
use Rattle.lv_lower_blocks.specs.Rewritten.{Rewrites}
use Rattle.lv_lower_blocks.specs.Aimed.{put_at}
use Rattle.lv_lower_blocks.proofs.puts.put.Given as goal

abbrev pub invariant-loop-i : goal.invariant-loop-i
invariant-loop-i l = Rewrites l.initial.b l.b l.initial.table l.table l.at l.i (put_at (declared_all l.signals) l.aim l.x l.initial.table l.at l.of.0)
