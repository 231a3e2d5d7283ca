use Rattle.std.proofs.Common.{sym, ap, ◌∙◌, arith}
use Rattle.lv_source.specs.Names.{Bounds, Declared}
use Rattle.lv_flat.specs.Signals.{declared_all, bounds_of}
use Rattle.lv_paths.proofs.Opening.{open-element, shut-element, open-scalar, shut-scalar, open-array, shut-array}
use Rattle.lv_paths.proofs.open.is_open.Goals as goal

pub returns-in-Some-clause-open : goal.returns-in-Some-clause-open
returns-in-Some-clause-open c = λ h.
    open-element (declared_all c.args.signals.now) c.args.written.now c.args.done.now.entries c.args.span c.in-Some.e c.in-Some.is c.requires (sym c.is_cell_open.ensures ∙ h)

pub returns-in-Some-clause-shut : goal.returns-in-Some-clause-shut
returns-in-Some-clause-shut c = λ h.
    shut-element (declared_all c.args.signals.now) c.args.written.now c.args.done.now.entries c.args.span c.in-Some.e c.in-Some.is (sym c.is_cell_open.ensures ∙ h)

pub returns-in-None-array-clause-open : goal.returns-in-None-array-clause-open
returns-in-None-array-clause-open c = λ h.
    open-scalar (declared_all c.args.signals.now) c.args.written.now c.args.done.now.entries c.args.span c.in-None.is
    (ap (λ (d : Declared). d.array) c.signal_of.ensures ∙ ap bounds_of c.in-None-array.is) c.requires (sym c.is_cell_open-in-None-array.ensures ∙ h)

pub returns-in-None-array-clause-shut : goal.returns-in-None-array-clause-shut
returns-in-None-array-clause-shut c = λ h.
    shut-scalar (declared_all c.args.signals.now) c.args.written.now c.args.done.now.entries c.args.span c.in-None.is
    (ap (λ (d : Declared). d.array) c.signal_of.ensures ∙ ap bounds_of c.in-None-array.is) (sym c.is_cell_open-in-None-array.ensures ∙ h)

pub returns-in-Some-array-clause-open : goal.returns-in-Some-array-clause-open
returns-in-Some-array-clause-open c = λ h.
    let b : Bounds = record { left = c.in-Some-array.left; right = c.in-Some-array.right } in
    open-array (declared_all c.args.signals.now) c.args.written.now c.args.done.now.entries c.args.span c.in-None.is b
    (ap (λ (d : Declared). d.array) c.signal_of.ensures ∙ ap bounds_of c.in-Some-array.is) _ _ (omega (arith, c.from-low.ensures, c.min.ensures)) (omega (arith, c.from-end.ensures, c.max.ensures)) c.requires (c.is_element_open.ensures.open h)

pub returns-in-Some-array-clause-shut : goal.returns-in-Some-array-clause-shut
returns-in-Some-array-clause-shut c = λ h.
    let b : Bounds = record { left = c.in-Some-array.left; right = c.in-Some-array.right } in
    shut-array (declared_all c.args.signals.now) c.args.written.now c.args.done.now.entries c.args.span c.in-None.is b
    (ap (λ (d : Declared). d.array) c.signal_of.ensures ∙ ap bounds_of c.in-Some-array.is) _ _ (omega (arith, c.from-low.ensures, c.min.ensures)) (omega (arith, c.from-end.ensures, c.max.ensures)) (c.is_element_open.ensures.shut h)
