use Rattle.std.proofs.Common.{arith, sym}
use Rattle.std.proofs.lemmas.List.{at_drop_all}
use Rattle.lv_sizes.specs.Counts.{added}
use Rattle.lv_sizes.proofs.Sums.{sum-added, spends-over}
use Rattle.lv_sizes.proofs.lists.spend_all.Goals as goal

pub returns-in-None : goal.returns-in-None
returns-in-None g c =
    let nodes = g.T.Counted.nodes in
    let e = sum-added nodes c.args.list.now in
    let h = spends-over nodes c.args.list.now c.loop-one.one-index c.args.left c.loop-one.left c.one-item.result c.loop-one-test.true (sym c.one-item.is) c.loop-one.invariant
    c.in-None.ensures in
    omega (arith, e, h)

pub returns : goal.returns
returns g c =
    let nodes = g.T.Counted.nodes in
    omega (arith, sum-added nodes c.args.list.now, at_drop_all (added nodes) c.args.list.now c.loop-one.one-index (omega arith))
