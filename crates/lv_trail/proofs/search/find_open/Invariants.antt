use Rattle.std.proofs.Common.{take}
use Rattle.std.specs.Prelude.{None}
use Rattle.lv_trail.specs.Store.{entries}
use Rattle.lv_trail.specs.Trail.{truths}
use Rattle.lv_trail.specs.Search.{IsOpenBut}
use Rattle.lv_trail.proofs.search.find_open.Given as goal

abbrev pub invariant-loop-x : goal.invariant-loop-x
invariant-loop-x l = IsOpenBut (truths (entries l.store)) (take l.x-index l.clause) l.but None
