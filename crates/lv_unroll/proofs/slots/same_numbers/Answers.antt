use Rattle.std.proofs.Common.{arith}
use Rattle.lv_unroll.proofs.Slotting.{same_step}
use Rattle.lv_unroll.proofs.slots.same_numbers.Goals as goal

pub loop-k-preserved : goal.loop-k-preserved
loop-k-preserved c =
    same_step c.args.b.now c.loop-k.b c.equal.new.b c.both.new.b _ c.loop-k.k c.loop-k.all c.in_ok-one.one c.in_ok-all-2.all c.at.result c.at-in-loop-k.result
    c.args.xs.now c.args.ys.now
    c.requires.left c.requires.right (omega arith) c.at.ensures c.at-in-loop-k.ensures c.loop-k.invariant c.in_ok-one.ensures c.in_ok-all-2.ensures
