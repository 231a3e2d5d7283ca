use Rattle.lv_unroll.proofs.Slotting.{same_slot_gives}
use Rattle.lv_unroll.proofs.slots.same_slot.Goals as goal

pub returns : goal.returns
returns c =
    same_slot_gives c.args.b.now c.both.new.b c.negated.new.b c.same_numbers.new.b c.either.new.b _ c.in_ok-two.two c.in_ok-apart.apart c.in_ok-same.same
    c.in_ok-at.at c.args.left.now c.args.right.now c.as_slice.result.now c.as_slice-2.result.now
    c.as_slice.ensures.value c.as_slice-2.ensures.value c.requires.left c.requires.right c.in_ok-two.ensures c.in_ok-apart.ensures c.in_ok-same.ensures
    c.in_ok-at.ensures
