use Rattle.std.proofs.Common.{take}
use Rattle.lv_trail.specs.Search.{IsBut}
use Rattle.lv_trail.proofs.search.find_late.Given as goal

abbrev pub invariant-loop-x : goal.invariant-loop-x
invariant-loop-x l = IsBut (take l.x-index l.clause) l.but l.found
