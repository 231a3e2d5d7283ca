use Rattle.std.proofs.Common.{◌≡◌, ℕ, ◌&&◌, ◌||◌, false, List, subst, refl}
use Rattle.std.specs.Prelude.{All}
use Rattle.lv_spans.specs.declared.span.Span.{Span}
use Rattle.lv_spans.specs.Sets.{Cell, has}
use Rattle.lv_spans.specs.Domain.{spans_have, IsSpan, IsWithin}
use Rattle.lv_paths.specs.Bits.{MeetsSome}
use Rattle.lv_paths.proofs.Doubles.{once-none, twice-found, once-more, once-all}
use Rattle.lv_paths.proofs.twice.share.Goals as goal

pub loop-aim-init : goal.loop-aim-init
loop-aim-init c = λ S as' h. once-none S as' c.new-set.result c.new-set.ensures.none (c.new-set.ensures.within S)

pub returns-then-meets : goal.returns-then-meets
returns-then-meets c = λ S as' h.
    twice-found S as' c.args.aims.now c.loop-aim.aim-index c.aim-item.result c.loop-aim.set h c.loop-aim-test.true c.aim-item.is (c.loop-aim.invariant S as' h)
    (subst (λ (xs : List Span). IsWithin S c.loop-aim.set → All (IsSpan S) xs → MeetsSome S c.loop-aim.set xs) c.as_slice.ensures (c.if-meets.ensures.meet refl S))

pub loop-aim-preserved : goal.loop-aim-preserved
loop-aim-preserved c = λ S as' h.
    once-more S as' c.args.aims.now c.loop-aim.aim-index c.aim-item.result c.loop-aim.set h c.loop-aim-test.true c.aim-item.is (c.loop-aim.invariant S as' h) c.in_ok-set.set
    (subst (λ (xs : List Span). (q : Cell) (i : ℕ) → (spans_have xs q i && has c.loop-aim.set q i) ≡ false) c.as_slice.ensures (c.if-meets.ensures.apart refl))
    (subst (λ (xs : List Span). (q : Cell) (i : ℕ) → has c.in_ok-set.set q i ≡ (has c.loop-aim.set q i || spans_have xs q i)) c.as_slice-in-loop-aim.ensures c.in_ok-set.ensures.added)
    (subst (λ (xs : List Span). IsWithin S c.loop-aim.set → All (IsSpan S) xs → IsWithin S c.in_ok-set.set) c.as_slice-in-loop-aim.ensures (c.in_ok-set.ensures.within S))

pub returns : goal.returns
returns c = λ S as' h. once-all S as' c.args.aims.now c.loop-aim.aim-index c.loop-aim.set h c.loop-aim-test.false (c.loop-aim.invariant S as' h)
