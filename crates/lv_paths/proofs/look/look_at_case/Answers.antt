use Rattle.std.proofs.Common.{◌++◌, List, sym, subst}
use Rattle.lv_flat.specs.Signals.{declared_all}
use Rattle.lv_flat.specs.Judged.{reading}
use Rattle.lv_spans.specs.declared.span.Span.{Span}
use Rattle.lv_spans.specs.Domain.{AreSpansOf}
use Rattle.lv_extents.specs.Blocks.{label_reads}
use Rattle.lv_extents.proofs.Spans.{adds-from, adds-then}
use Rattle.lv_paths.proofs.look.look_at_case.Goals as goal

pub are_open-exposed-requires : goal.are_open-exposed-requires
are_open-exposed-requires c =
    let S = declared_all c.args.signals.now in
    (subst (λ (xs : List Span). AreSpansOf S ((reading S c.args.x.now).reads ++ label_reads S c.args.arms.now) xs) (sym c.as_slice.ensures)
    (adds-from S c.new-reads.result _ _ c.new-reads.ensures (adds-then S c.in_ok-add_reads.ensures.reads c.in_ok-constant.ensures.reads))).each

pub returns-clause-exposed : goal.returns-clause-exposed
returns-clause-exposed c =
    let S = declared_all c.args.signals.now in
    c.are_open-exposed.ensures ((reading S c.args.x.now).reads ++ label_reads S c.args.arms.now)
    (subst (λ (xs : List Span). AreSpansOf S ((reading S c.args.x.now).reads ++ label_reads S c.args.arms.now) xs) (sym c.as_slice.ensures)
    (adds-from S c.new-reads.result _ _ c.new-reads.ensures (adds-then S c.in_ok-add_reads.ensures.reads c.in_ok-constant.ensures.reads)))
