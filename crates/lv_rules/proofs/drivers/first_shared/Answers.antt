use Rattle.std.proofs.Common.{◌≡◌, ◌||◌, ◌&&◌, ◌<◌, ℕ, false, length, refl, sym, subst, ◌∙◌, arith}
use Rattle.std.specs.Prelude.{All}
use Rattle.lv_flat.specs.Signals.{Signals, declared_all}
use Rattle.lv_spans.specs.Sets.{Cell, has}
use Rattle.lv_spans.specs.Domain.{IsSpan, IsWithin, spans_have}
use Rattle.lv_rules.specs.Drives.{MeetsSome}
use Rattle.lv_rules.proofs.Sharing.{shared_none, shared_more, shared_all, twice-alone, twice-shared}
use Rattle.lv_rules.proofs.drivers.first_shared.Goals as goal

pub loop-part-init : goal.loop-part-init
loop-part-init c = shared_none (declared_all c.args.signals.now) c.args.clocked.now c.args.unclocked.now c.args.extents.now c.new-driven.result c.new-driven.ensures.none c.new-driven.ensures.within

pub returns-then-is_told_alone : goal.returns-then-is_told_alone
returns-then-is_told_alone c =
    let l : c.loop-part.part < length c.args.extents.now = omega arith in
    twice-alone (declared_all c.args.signals.now) c.args.clocked.now c.args.unclocked.now c.args.extents.now c.loop-part.part c.index-extents-part.result l c.index-extents-part.is (sym
    c.is_told_alone.ensures ∙ c.if-is_told_alone.true)

pub returns-then-meets : goal.returns-then-meets
returns-then-meets c =
    let l : c.loop-part.part < length c.args.extents.now = omega arith in
    twice-shared (declared_all c.args.signals.now) c.args.clocked.now c.args.unclocked.now c.args.extents.now c.loop-part.driven c.loop-part.part c.index-extents-part.result l
    c.index-extents-part.is c.loop-part.invariant
    (subst (λ spans. (S : Signals) → IsWithin S c.loop-part.driven → All (IsSpan S) spans → MeetsSome S c.loop-part.driven spans) c.as_slice.ensures (c.if-meets.ensures.meet refl))

pub loop-part-preserved : goal.loop-part-preserved
loop-part-preserved c =
    let l : c.loop-part.part < length c.args.extents.now = omega arith in
    shared_more (declared_all c.args.signals.now) c.args.clocked.now c.args.unclocked.now c.args.extents.now c.loop-part.driven c.in_ok-driven.driven c.loop-part.part
    c.index-extents-part.result l c.index-extents-part.is (sym c.is_told_alone.ensures ∙ c.if-is_told_alone.false)
    (subst (λ spans. (q : Cell) (i : ℕ) → (spans_have spans q i && has c.loop-part.driven q i) ≡ false) c.as_slice.ensures (c.if-meets.ensures.apart refl))
    (subst (λ spans. (q : Cell) (i : ℕ) → has c.in_ok-driven.driven q i ≡ (has c.loop-part.driven q i || spans_have spans q i)) c.as_slice-in-loop-part.ensures c.in_ok-driven.ensures.added)
    (subst (λ spans. (S : Signals) → IsWithin S c.loop-part.driven → All (IsSpan S) spans → IsWithin S c.in_ok-driven.driven) c.as_slice-in-loop-part.ensures c.in_ok-driven.ensures.within)
    c.loop-part.invariant

pub returns : goal.returns
returns c = shared_all (declared_all c.args.signals.now) c.args.clocked.now c.args.unclocked.now c.args.extents.now c.loop-part.driven c.loop-part.part (omega arith) c.loop-part.invariant
