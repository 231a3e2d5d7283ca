use Rattle.std.proofs.Common.{◌∙◌, ◌++◌, ◌∷◌, [], List, ap, arith}
use Rattle.lv_unroll.specs.declared.slots.Slot.{Slot}
use Rattle.lv_unroll.proofs.Slotting.{appending_step, appended_gives}
use Rattle.lv_unroll.proofs.slots.append.Goals as goal

pub loop-slot-preserved : goal.loop-slot-preserved
loop-slot-preserved c =
    appending_step c.args.b.now c.loop-slot.b c.filled.new.b _ c.args.on c.loop-slot.before c.loop-slot.slot-index c.args.values.now c.args.slots.now
    c.loop-slot.out.items c.push_reserved.new.self.items c.slot-item.result c.in_ok-next.next
    c.slot-item.is (omega arith) c.requires.on c.requires.values c.requires.slots (c.push_reserved.ensures.items ∙
    ap (λ (xs : List Slot). xs ++ c.in_ok-next.next ∷ []) c.reserve.ensures.items) c.loop-slot.invariant c.in_ok-next.ensures

pub returns : goal.returns
returns c =
    appended_gives c.args.b.now c.loop-slot.b c.both.new.b _ c.args.on c.loop-slot.before c.loop-slot.slot-index c.args.values.now c.args.slots.now
    c.loop-slot.out.items c.push_reserved-2.new.self.items (record { on = c.in_ok-last.last; values = c.in_ok-values.values })
    (omega arith) c.requires.on c.requires.values c.in_ok-values.ensures.items (c.push_reserved-2.ensures.items ∙ ap (λ (xs : List Slot). xs ++ record {
      on =
          c.in_ok-last.last;
      values = c.in_ok-values.values;
    } ∷ []) c.reserve-2.ensures.items) c.loop-slot.invariant c.in_ok-last.ensures
