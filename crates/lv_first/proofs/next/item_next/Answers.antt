use Rattle.std.proofs.Common.{◌≡◌, ◌∷◌, ◌++◌, [], true, false, sym, ◌∙◌, ap, subst}
use Rattle.std.proofs.lemmas.Bool.{false≢true}
use Rattle.std.specs.Prelude.{None}
use Rattle.lv_ast.specs.declared.item.Item.{Item}
use Rattle.lv_ast.specs.declared.item.Item.TheVariants as i
use Rattle.lv_first.specs.FirstForm.{is_bit_declaration}
use Rattle.lv_first.specs.Signals.{IsClockedBy, AreItemsNext}
use Rattle.lv_first.proofs.Items.{begun_next, items_with_register, items_with_block}
use Rattle.lv_first.proofs.Others.{declaration_parts, watch_of, body_of}
use Rattle.lv_first.proofs.next.item_next.Goals as goal

pub returns-else-not-is_bit_declaration : goal.returns-else-not-is_bit_declaration
returns-else-not-is_bit_declaration c = λ items now.
    let Rs = c.args.signals.now.registers in
    let Is = c.args.signals.now.inputs in
    let parts = declaration_parts c.in-Reg.signed c.in-Reg.range c.in-Reg.names
    (ap (is_bit_declaration c.in-Reg.signed c.in-Reg.range) (sym c.as_slice.ensures) ∙ sym c.is_bit_declaration.ensures ∙ c.if-not-is_bit_declaration.false) in
    let e : c.args.item.now ≡ i.Reg false None c.in-Reg.names = c.in-Reg.is ∙ ap (λ z. i.Reg z c.in-Reg.range c.in-Reg.names) parts.0 ∙ ap (λ z. i.Reg false z c.in-Reg.names) parts.1 in
    subst (λ (z : Item). AreItemsNext c.args.clock.now Rs Is (items ++ z ∷ []) c.args.progress.found c.args.progress.next) (sym e)
    (items_with_register Rs Is c.args.clock.now items c.in-Reg.names c.args.progress.found c.args.progress.next parts.2 now)

pub returns-then-not-is_clocked_by : goal.returns-then-not-is_clocked_by
returns-then-not-is_clocked_by c = λ items now legal one.
    let Rs = c.args.signals.now.registers in
    let Is = c.args.signals.now.inputs in
    false≢true (sym c.if-not-is_clocked_by.true ∙ c.is_clocked_by.ensures.1 (watch_of c.args.clock.now Rs (Rs ++ Is) c.args.item.now c.in-Always.watch c.in-Always.body c.in-Always.field-2 legal c.in-Always.is))

pub returns-in-None : goal.returns-in-None
returns-in-None c = λ items now legal one.
    let Rs = c.args.signals.now.registers in
    let Is = c.args.signals.now.inputs in
    let none = rw c.in-None.is at c.in_ok-body_next-in-Always.ensures in
    let before : AreItemsNext c.args.clock.now Rs Is items false c.args.progress.next = subst (λ f. AreItemsNext c.args.clock.now Rs Is items f c.args.progress.next) c.if-progress.false now in
    none (begun_next Rs Is c.args.clock.now items c.args.progress.next before)
    (body_of c.args.clock.now Rs (Rs ++ Is) c.args.item.now c.in-Always.watch c.in-Always.body c.in-Always.field-2 legal c.in-Always.is)

pub returns-in-Some : goal.returns-in-Some
returns-in-Some c = λ items now.
    let Rs = c.args.signals.now.registers in
    let Is = c.args.signals.now.inputs in
    let edge : IsClockedBy c.in-Always.watch c.args.clock.now = c.is_clocked_by.ensures.0 c.if-not-is_clocked_by.false in
    let law = rw c.in-Some.is at c.in_ok-body_next-in-Always.ensures in
    let before : AreItemsNext c.args.clock.now Rs Is items false c.args.progress.next = subst (λ f. AreItemsNext c.args.clock.now Rs Is items f c.args.progress.next) c.if-progress.false now in
    subst (λ (z : Item). AreItemsNext c.args.clock.now Rs Is (items ++ z ∷ []) true c.in-Some.next) (sym c.in-Always.is)
    (items_with_block Rs Is c.args.clock.now items c.in-Always.watch c.in-Always.body c.in-Always.field-2 c.args.progress.next c.in-Some.next edge (law (begun_next Rs Is c.args.clock.now items c.args.progress.next before)) before)
