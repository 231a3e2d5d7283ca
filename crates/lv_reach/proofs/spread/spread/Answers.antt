use Rattle.std.proofs.Common.{◌≡◌, ℕ, List, sym, subst, ap, ◌∙◌, false, ◌&&◌, ◌||◌}
use Rattle.std.specs.Prelude.{All}
use Rattle.lv_spans.specs.declared.span.Span.{Span}
use Rattle.lv_spans.specs.Sets.{Cell, has}
use Rattle.lv_spans.specs.Domain.{IsSpan, spans_have}
use Rattle.lv_reach.specs.Spreading.{MeetsSome}
use Rattle.lv_reach.proofs.Spreading.{spreads-not, spreads-all}
use Rattle.lv_reach.proofs.spread.spread.Goals as goal

pub returns-in_ok-made : goal.returns-in_ok-made
returns-in_ok-made c = λ S w r d.
    let m : MeetsSome S c.args.set c.args.x.now.reads = subst (λ (xs : List Span). MeetsSome S c.args.set xs) c.as_slice.ensures
    (c.meets.ensures.meet c.if-meets.true S w (subst (λ (xs : List Span). All (IsSpan S) xs) (sym c.as_slice.ensures) r)) in
    spreads-all S c.args.set c.args.x.now.reads c.args.x.now.drives c.in_ok-made.made
    (c.in_ok-made.ensures.within S w (subst (λ (xs : List Span). All (IsSpan S) xs) (sym c.as_slice-then-meets.ensures) d)) m
    (λ q i. c.in_ok-made.ensures.added q i ∙ ap (λ (xs : List Span). has c.args.set q i || spans_have xs q i) c.as_slice-then-meets.ensures)

pub returns-else-meets : goal.returns-else-meets
returns-else-meets c = λ S w r d.
    spreads-not S c.args.set c.args.x.now.reads c.args.x.now.drives w
    (subst (λ (xs : List Span). (q : Cell) (i : ℕ) → (spans_have xs q i && has c.args.set q i) ≡ false) c.as_slice.ensures (c.meets.ensures.apart c.if-meets.false))
