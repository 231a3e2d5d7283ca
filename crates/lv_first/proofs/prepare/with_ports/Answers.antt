use Rattle.std.proofs.Common.{List, sym, ◌∙◌, subst}
use Rattle.std.proofs.lemmas.Bool.{false≢true}
use Rattle.lv_ast.specs.declared.item.Item.{Item}
use Rattle.lv_first.specs.FirstForm.{registers_of, inputs_of}
use Rattle.lv_first.specs.Signals.{HasSignals, IsBuilt, IsBitForm}
use Rattle.lv_first.proofs.Others.{is_none}
use Rattle.lv_first.proofs.Prepared.{distinct_signals, signals_of_form, bits_of_form, form_over, prepared}
use Rattle.lv_first.proofs.prepare.with_ports.Goals as goal

pub returns-then-not-are_one_bit : goal.returns-then-not-are_one_bit
returns-then-not-are_one_bit c = λ top called no_params declared form.
    false≢true (sym c.if-not-are_one_bit.true ∙ c.are_one_bit.ensures ∙ bits_of_form c.args.design.now top c.args.clock.now c.args.trees.now c.args.ports.now declared form)

pub returns-in_default : goal.returns-in_default
returns-in_default c = λ top called no_params declared form.
    let m = c.args.design.now in
    let clock = c.args.clock.now in
    let none = rw (is_none _ c.in_default.not-Some) at c.in_ok-signals.ensures in
    none (registers_of m) (inputs_of m clock)
    (subst (λ (z : List Item). HasSignals c.args.ports.now z clock (registers_of m) (inputs_of m clock)) (sym c.as_slice.ensures) (signals_of_form m top clock c.args.trees.now c.args.ports.now declared form))
    form.few

pub returns-in_default-2 : goal.returns-in_default-2
returns-in_default-2 c = λ top called no_params declared form.
    let m = c.args.design.now in
    let clock = c.args.clock.now in
    let ports = c.args.ports.now in
    let Rs = c.in-Some.signals.registers in
    let Is = c.in-Some.signals.inputs in
    let h = subst (λ (z : List Item). HasSignals ports z clock Rs Is) c.as_slice.ensures (rw c.in-Some.is at c.in_ok-signals.ensures) in
    let none = rw (is_none _ c.in_default-2.not-Some) at c.in_ok-problem.ensures in
    none (distinct_signals ports m.items clock Rs Is h)
    (subst (λ (z : List Item). IsBitForm clock Rs Is z c.args.trees.now) (sym c.as_slice-2.ensures) (form_over m top clock c.args.trees.now ports declared Rs Is h form))

pub returns : goal.returns
returns c = λ top called no_params declared.
    let m = c.args.design.now in
    let clock = c.args.clock.now in
    let ports = c.args.ports.now in
    let Rs = c.in-Some.signals.registers in
    let Is = c.in-Some.signals.inputs in
    let h = subst (λ (z : List Item). HasSignals ports z clock Rs Is) c.as_slice.ensures (rw c.in-Some.is at c.in_ok-signals.ensures) in
    let g = rw c.in-Some-2.is at c.in_ok-problem.ensures in
    prepared m top clock c.args.trees.now ports declared Rs Is h c.in-Some-2.problem called no_params
    (sym c.are_one_bit.ensures ∙ c.if-not-are_one_bit.false)
    (subst (λ (z : List Item). IsBuilt clock Rs Is z c.args.trees.now c.in-Some-2.problem) c.as_slice-2.ensures (g (distinct_signals ports m.items clock Rs Is h)))
