use Rattle.std.proofs.Common.{List, sym, subst}
use Rattle.lv_flat.specs.Signals.{declared_all}
use Rattle.lv_flat.specs.Judged.{reading}
use Rattle.lv_spans.specs.declared.span.Span.{Span}
use Rattle.lv_spans.specs.Domain.{AreSpansOf}
use Rattle.lv_extents.proofs.Spans.{adds-from}
use Rattle.lv_paths.proofs.look.look_at_condition.Goals as goal

pub are_open-exposed-requires : goal.are_open-exposed-requires
are_open-exposed-requires c =
    let S = declared_all c.args.signals.now in
    (subst (λ (xs : List Span). AreSpansOf S (reading S c.args.x.now).reads xs) (sym c.as_slice.ensures) (adds-from S c.new-reads.result _ _ c.new-reads.ensures c.in_ok-constant.ensures.reads)).each

pub returns-clause-exposed : goal.returns-clause-exposed
returns-clause-exposed c =
    let S = declared_all c.args.signals.now in
    c.are_open-exposed.ensures (reading S c.args.x.now).reads
    (subst (λ (xs : List Span). AreSpansOf S (reading S c.args.x.now).reads xs) (sym c.as_slice.ensures) (adds-from S c.new-reads.result _ _ c.new-reads.ensures c.in_ok-constant.ensures.reads))
