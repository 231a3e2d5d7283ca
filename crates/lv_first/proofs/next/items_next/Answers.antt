use Rattle.std.proofs.Common.{◌++◌, take, ◌∙◌, arith}
use Rattle.lv_first.specs.FirstForm.{IsBitItem}
use Rattle.lv_first.proofs.Items.{items_begin, clocked_front}
use Rattle.lv_first.proofs.Others.{all_at}
use Rattle.lv_first.proofs.next.items_next.Goals as goal

pub loop-item-init : goal.loop-item-init
loop-item-init c = λ distinct.
    items_begin c.args.signals.now.registers c.args.signals.now.inputs c.args.clock.now c.in_ok-unchanged.field-0 distinct
    (c.in_ok-unchanged.ensures.count ∙ c.len.ensures) c.in_ok-unchanged.ensures.each

pub returns-in-None : goal.returns-in-None
returns-in-None c = λ distinct all one.
    let Rs = c.args.signals.now.registers in
    let Is = c.args.signals.now.inputs in
    let items = c.args.items.now in
    let k = c.loop-item.item-index in
    let none = rw c.in-None.is at c.in_ok-after.ensures in
    none (take k items) (c.loop-item.invariant distinct)
    (all_at (IsBitItem c.args.clock.now Rs (Rs ++ Is)) items k c.item-item.result c.loop-item-test.true c.item-item.is all)
    (omega (arith, one, clocked_front items k c.item-item.result c.loop-item-test.true c.item-item.is))
