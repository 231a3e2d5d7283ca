use Rattle.std.proofs.Common.{◌≡◌, ◌+◌, drop}
use Rattle.lv_sizes.specs.Counts.{added}
use Rattle.lv_sizes.proofs.lists.spend_all.Given as goal

abbrev pub invariant-loop-one : goal.invariant-loop-one
invariant-loop-one g l = l.left + added g.T.Counted.nodes l.list ≡ l.fn.left + added g.T.Counted.nodes (drop l.one-index l.list)
