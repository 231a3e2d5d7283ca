use Rattle.std.proofs.Common.{◌++◌, List, sym, subst, ap, ◌∙◌, refl}
use Rattle.lv_source.specs.Flow.{writes_of}
use Rattle.lv_flat.specs.Signals.{declared_all}
use Rattle.lv_flat.specs.Executing.{pieces}
use Rattle.lv_flat.proofs.Widths.{target-names}
use Rattle.lv_spans.specs.declared.span.Span.{Span}
use Rattle.lv_spans.specs.Domain.{AreSpansOf}
use Rattle.lv_extents.specs.Extents.{IsAim}
use Rattle.lv_extents.specs.Blocks.{aim_spans}
use Rattle.lv_extents.proofs.Spans.{adds-from, adds-then}
use Rattle.lv_extents.proofs.Lists.{each-from}
use Rattle.lv_extents.proofs.PartViews.{assign-extent, assign-drives}
use Rattle.lv_extents.proofs.parts.continuous.Goals as goal

pub add_aims-requires-clause-good : goal.add_aims-requires-clause-good
add_aims-requires-clause-good c = target-names (declared_all c.args.signals.now) c.args.t.now c.requires.target

pub returns : goal.returns
returns c =
    let S = declared_all c.args.signals.now in
    let aims = each-from (IsAim S) c.new-aims.result _ _ c.new-aims.ensures c.in_ok-add_aims.ensures.aims in
    assign-extent S c.args.p.now _ c.in_ok-path.ensures refl (c.in_ok-clocks.ensures ∙ c.as_slice-2.ensures) c.args.t.now c.args.x.now c.requires.is refl
    (subst (λ (xs : List Span). AreSpansOf S (writes_of (pieces S c.args.t.now)) xs)
    (sym (c.in_ok-add_bits.ensures ∙ (ap (λ (xs : List Span). xs ++ aim_spans c.as_slice.result.now) c.new-drives.ensures ∙ ap aim_spans c.as_slice.ensures)))
    (assign-drives S (pieces S c.args.t.now) _ aims))
    (adds-from S c.new-reads.result _ _ c.new-reads.ensures (adds-then S c.in_ok-add_reads.ensures.reads c.in_ok-add_aims.ensures.reads)) aims c.new.ensures refl refl c.requires.twice
