use Rattle.std.proofs.Common.{◌<◌, None, length, get_or, List, refl, subst, arith}
use Rattle.std.proofs.lemmas.List.{get_or_default}
use Rattle.lv_flat.specs.Signals.{declared_all}
use Rattle.lv_spans.specs.declared.span.Span.{Span}
use Rattle.lv_extents.proofs.Lists.{past}
use Rattle.lv_paths.proofs.Opening.{AllShut, is-exposed, not-exposed}
use Rattle.lv_paths.proofs.open.are_open.Goals as goal

pub returns-then-is_open : goal.returns-then-is_open
returns-then-is_open c =
    let lt : c.loop-span.span-index < length c.args.spans.now = omega arith in
    let none : Span = record { signal = 0; element = None; mask = 0 } in
    let s : Span = get_or c.args.spans.now c.loop-span.span-index none in
    λ bits p.
    is-exposed (declared_all c.args.signals.now) c.args.written.now c.args.done.now.entries c.args.spans.now c.args.already c.loop-span.span-index s lt
    (get_or_default c.args.spans.now c.loop-span.span-index none s lt) (c.if-is_open.ensures.open refl) bits p

pub returns : goal.returns
returns c = λ bits p.
    let S = declared_all c.args.signals.now in
    not-exposed S c.args.written.now c.args.done.now.entries c.args.spans.now c.args.already c.if-already.false
    (subst (λ (xs : List Span). AllShut S c.args.written.now c.args.done.now.entries xs) (past c.args.spans.now c.loop-span.span-index c.loop-span-test.false) c.loop-span.invariant) bits p
