use Rattle.std.proofs.Common.{arith}
use Rattle.lv_unroll.proofs.Slotting.{flags_step}
use Rattle.lv_unroll.proofs.Packing.{flags_done}
use Rattle.lv_unroll.proofs.slots.same_count.Goals as goal

pub loop-k-preserved : goal.loop-k-preserved
loop-k-preserved c =
    flags_step c.args.b.now c.loop-k.b c.same_on.new.b c.both.new.b c.requires.beside.count c.loop-k.k c.loop-k.all c.in_ok-one.one
    c.in_ok-all-2.all c.args.left.now c.args.right.now c.index-left-k.result c.index-right-k.result c.requires.beside.lefts
    c.requires.beside.rights (omega arith) c.requires.same c.index-left-k.is c.index-right-k.is c.loop-k.invariant c.in_ok-one.ensures
    c.in_ok-all-2.ensures

pub returns : goal.returns
returns c =
    flags_done c.args.b.now c.loop-k.b c.loop-k.k c.loop-k.all c.args.left.now c.args.right.now (omega arith) c.requires.same
    c.requires.left c.requires.right c.loop-k.invariant
