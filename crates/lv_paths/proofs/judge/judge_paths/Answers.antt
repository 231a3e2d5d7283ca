use Rattle.std.proofs.Common.{◌≡◌, ℕ, ◌||◌, List, sym, subst}
use Rattle.lv_flat.specs.Signals.{declared_all}
use Rattle.lv_flat.specs.Flows.{summary}
use Rattle.lv_spans.specs.declared.span.Span.{Span}
use Rattle.lv_spans.specs.Sets.{Cell, has}
use Rattle.lv_spans.specs.Domain.{spans_have, AreSpansOf}
use Rattle.lv_extents.proofs.Spans.{adds-from}
use Rattle.lv_paths.proofs.Judging.{exposed-is, latch-is}
use Rattle.lv_paths.proofs.judge.judge_paths.Goals as goal

pub are_open-latch-requires : goal.are_open-latch-requires
are_open-latch-requires c =
    let S = declared_all c.args.signals.now in
    (subst (λ (xs : List Span). AreSpansOf S (summary S c.args.stmt.now).written xs) (sym c.as_slice-2.ensures)
    (adds-from S c.new-spans.result _ _ c.new-spans.ensures c.in_ok-add_written.ensures)).each

pub returns-clause-latch : goal.returns-clause-latch
returns-clause-latch c =
    let S = declared_all c.args.signals.now in
    let spans = adds-from S c.new-spans.result _ _ c.new-spans.ensures c.in_ok-add_written.ensures in
    latch-is S (summary S c.args.stmt.now) _ c.new.result c.in_ok-written.written _ _ _ _ c.in_ok-exposed.exposed c.are_open-latch.result spans c.new.ensures.none
    (subst (λ (xs : List Span). (q : Cell) (i : ℕ) → has c.in_ok-written.written q i ≡ (has c.new.result q i || spans_have xs q i)) c.as_slice.ensures c.in_ok-written.ensures.added)
    c.new-done.ensures.empty c.in_ok-exposed.ensures
    (c.are_open-latch.ensures (summary S c.args.stmt.now).written (subst (λ (xs : List Span). AreSpansOf S (summary S c.args.stmt.now).written xs) (sym c.as_slice-2.ensures) spans))

pub returns-clause-exposed : goal.returns-clause-exposed
returns-clause-exposed c =
    let S = declared_all c.args.signals.now in
    let spans = adds-from S c.new-spans.result _ _ c.new-spans.ensures c.in_ok-add_written.ensures in
    exposed-is S (summary S c.args.stmt.now) _ c.new.result c.in_ok-written.written _ _ _ _ c.in_ok-exposed.exposed c.are_open-latch.result spans c.new.ensures.none
    (subst (λ (xs : List Span). (q : Cell) (i : ℕ) → has c.in_ok-written.written q i ≡ (has c.new.result q i || spans_have xs q i)) c.as_slice.ensures c.in_ok-written.ensures.added)
    c.new-done.ensures.empty c.in_ok-exposed.ensures
    (c.are_open-latch.ensures (summary S c.args.stmt.now).written (subst (λ (xs : List Span). AreSpansOf S (summary S c.args.stmt.now).written xs) (sym c.as_slice-2.ensures) spans))
