use Rattle.std.proofs.Common.{◌≤◌, length, arith}
use Rattle.lv_reach.proofs.Registered.{driven-none, driven-more, driven-all}
use Rattle.lv_reach.proofs.signals.driven.Goals as goal

pub loop-x-init : goal.loop-x-init
loop-x-init c = driven-none c.args.extents.now _ c.new-set.ensures.none c.new-set.ensures.within

pub loop-x-preserved : goal.loop-x-preserved
loop-x-preserved c =
    driven-more c.args.extents.now c.loop-x.x-index c.x-item.result c.loop-x.set c.in_ok-set.set c.loop-x-test.true c.x-item.is c.in_ok-set.ensures.added c.in_ok-set.ensures.within c.loop-x.invariant

pub returns : goal.returns
returns c = driven-all c.args.extents.now c.loop-x.x-index c.loop-x.set (omega arith) c.loop-x.invariant
