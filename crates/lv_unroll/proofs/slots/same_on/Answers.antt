use Rattle.lv_unroll.proofs.Slotting.{same_on_gives}
use Rattle.lv_unroll.proofs.slots.same_on.Goals as goal

pub returns : goal.returns
returns c =
    same_on_gives c.args.b.now c.negated.new.b c.negated-2.new.b c.equal.new.b c.args.left.now.on c.args.right.now.on c.in_ok-free.free c.in_ok-other.other
    c.in_ok-at.at c.requires.right c.in_ok-free.ensures c.in_ok-other.ensures c.in_ok-at.ensures
