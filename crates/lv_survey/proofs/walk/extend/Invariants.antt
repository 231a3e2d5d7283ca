use Rattle.std.proofs.Common.{◌≡◌, take}
use Rattle.lv_survey.proofs.walk.extend.Given as goal

abbrev pub invariant-loop-at : goal.invariant-loop-at
invariant-loop-at l = l.early ≡ take l.at l.entries
