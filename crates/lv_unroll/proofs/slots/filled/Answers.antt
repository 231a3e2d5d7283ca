use Rattle.lv_unroll.proofs.Slotting.{filled_gives}
use Rattle.lv_unroll.proofs.slots.filled.Goals as goal

pub returns : goal.returns
returns c =
    filled_gives c.args.b.now c.both.new.b c.either.new.b c.chosen_values.new.b _ c.args.before c.args.on c.in_ok-free.free c.args.slot.now _
    c.as_slice.result.now c.args.values.now
    c.as_slice.ensures.value c.requires.before c.requires.on c.requires.values c.requires.slot c.in_ok-free.ensures c.in_ok-there.ensures c.in_ok-values.ensures
