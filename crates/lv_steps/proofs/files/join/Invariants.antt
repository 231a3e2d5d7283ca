use Rattle.std.proofs.Common.{take}
use Rattle.lv_steps.proofs.Reading.{Joined}
use Rattle.lv_steps.proofs.files.join.Given as goal

abbrev pub invariant-loop-part : goal.invariant-loop-part
invariant-loop-part l = Joined (take l.part-index l.parts) l.text.items l.first
