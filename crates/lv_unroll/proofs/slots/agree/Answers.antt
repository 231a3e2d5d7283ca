use Rattle.std.proofs.Common.{arith}
use Rattle.lv_unroll.proofs.Slotting.{agree_step}
use Rattle.lv_unroll.proofs.slots.agree.Goals as goal

pub loop-k-preserved : goal.loop-k-preserved
loop-k-preserved c =
    agree_step c.args.b.now c.loop-k.b c.same_slot.new.b c.both.new.b c.requires.beside.count c.loop-k.k c.loop-k.all c.in_ok-one.one c.in_ok-all-2.all
    c.args.left.now c.args.right.now c.index-left-k.result c.index-right-k.result
    c.requires.beside.lefts c.requires.beside.rights (omega arith) c.requires.same c.index-left-k.is c.index-right-k.is c.loop-k.invariant c.in_ok-one.ensures
    c.in_ok-all-2.ensures
