use Rattle.std.proofs.Common.{List, sym, subst, ap, ◌∙◌}
use Rattle.lv_source.specs.Flow.{writes_of}
use Rattle.lv_flat.specs.Signals.{declared_all}
use Rattle.lv_flat.specs.Executing.{pieces}
use Rattle.lv_spans.specs.declared.span.Span.{Span}
use Rattle.lv_extents.specs.Adds.{Adds}
use Rattle.lv_extents.specs.Extents.{IsAim}
use Rattle.lv_extents.specs.Blocks.{aim_spans}
use Rattle.lv_extents.proofs.Lists.{each-from}
use Rattle.lv_extents.proofs.Spans.{adds-spans}
use Rattle.lv_extents.proofs.PartViews.{assign-drives}
use Rattle.std.proofs.Common.{◌++◌}
use Rattle.lv_paths.proofs.writes.add_target.Goals as goal

pub returns : goal.returns
returns c =
    let S = declared_all c.args.signals.now in
    let aims = each-from (IsAim S) c.new-aims.result _ _ c.new-aims.ensures c.in_ok-add_aims.ensures.aims in
    subst (λ (xs : List Span). Adds S c.args.into.now xs (writes_of (pieces S c.args.t.now)))
    (sym (c.in_ok-add_bits.ensures ∙ ap (λ xs. c.args.into.now ++ aim_spans xs) c.as_slice.ensures))
    (adds-spans S c.args.into.now (aim_spans c.add_aims.new.aims) (writes_of (pieces S c.args.t.now)) (assign-drives S (pieces S c.args.t.now) _ aims))
