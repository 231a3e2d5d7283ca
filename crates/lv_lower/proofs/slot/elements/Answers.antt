use Rattle.std.proofs.Common.{◌∙◌, arith, ap, ◌++◌, ◌∷◌, []}
use Rattle.lv_lower.specs.declared.slot.Slot.{Slot}
use Rattle.lv_lower.specs.Slots.{element_slot}
use Rattle.lv_lower.proofs.Slotting.{elements-more}
use Rattle.lv_lower.proofs.slot.elements.Goals as goal

pub loop-index-preserved : goal.loop-index-preserved
loop-index-preserved c =
    elements-more (element_slot c.args.path.now c.args.width c.args.kind) c.args.slots.now.items c.loop-index.slots.items c.push.new.self.items _ c.loop-index.index
    (omega arith) c.loop-index.invariant
    (c.in_ok-push.ensures.items ∙ ap (λ n. c.loop-index.slots.items ++ (let s : Slot = record { name = n; width = c.args.width; kind = c.args.kind } in s) ∷ []) c.in_ok-name.ensures)
