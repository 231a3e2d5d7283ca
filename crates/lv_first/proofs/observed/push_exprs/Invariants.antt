use Rattle.std.proofs.Common.{◌≡◌, ◌++◌, take}
use Rattle.lv_first.specs.FirstContract.{exprs}
use Rattle.lv_first.proofs.observed.push_exprs.Given as goal

abbrev pub invariant-loop-one : goal.invariant-loop-one
invariant-loop-one l = l.exprs ≡ l.initial.exprs ++ exprs (take l.one-index l.list)
