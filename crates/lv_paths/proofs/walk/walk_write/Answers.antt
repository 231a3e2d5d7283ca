use Rattle.std.proofs.Common.{◌++◌, ◌||◌, List, flat_map, sym, subst, ap, ◌∙◌}
use Rattle.lv_source.specs.Meaning.{index_reads}
use Rattle.lv_source.specs.Effect.{Piece}
use Rattle.lv_flat.specs.Signals.{declared_all}
use Rattle.lv_flat.specs.Judged.{reading}
use Rattle.lv_flat.specs.Executing.{pieces}
use Rattle.lv_spans.specs.declared.span.Span.{Span}
use Rattle.lv_spans.specs.Domain.{AreSpansOf}
use Rattle.lv_extents.specs.declared.extent.Aim.{Aim}
use Rattle.lv_extents.specs.Extents.{IsAim}
use Rattle.lv_extents.proofs.Spans.{adds-from, adds-then}
use Rattle.lv_extents.proofs.Lists.{each-from}
use Rattle.lv_paths.specs.Bits.{holds, surely_have}
use Rattle.lv_paths.proofs.Trees.{write-walks}
use Rattle.lv_paths.proofs.walk.walk_write.Goals as goal

pub are_open-r-requires : goal.are_open-r-requires
are_open-r-requires c =
    let S = declared_all c.args.signals.now in
    (subst (λ (xs : List Span). AreSpansOf S ((reading S c.args.x.now).reads ++ flat_map (λ (p : Piece). index_reads p.choices) (pieces S c.args.t.now)) xs) (sym c.as_slice.ensures)
    (adds-from S c.new-reads.result _ _ c.new-reads.ensures (adds-then S c.in_ok-add_reads.ensures.reads c.in_ok-add_aims.ensures.reads))).each

pub returns : goal.returns
returns c =
    let S = declared_all c.args.signals.now in
    write-walks S c.args.written.now c.args.done.now.entries c.add_sure.new.done.entries c.args.log.now c.add_sure.new.log c.args.exposed c.are_open-r.result (pieces S c.args.t.now)
    (reading S c.args.x.now) _ (each-from (IsAim S) c.new-aims.result _ _ c.new-aims.ensures c.in_ok-add_aims.ensures.aims)
    (c.are_open-r.ensures ((reading S c.args.x.now).reads ++ flat_map (λ (p : Piece). index_reads p.choices) (pieces S c.args.t.now))
    (subst (λ (xs : List Span). AreSpansOf S ((reading S c.args.x.now).reads ++ flat_map (λ (p : Piece). index_reads p.choices) (pieces S c.args.t.now)) xs) (sym c.as_slice.ensures)
    (adds-from S c.new-reads.result _ _ c.new-reads.ensures (adds-then S c.in_ok-add_reads.ensures.reads c.in_ok-add_aims.ensures.reads))))
    (λ q i. c.in_ok-add_sure.ensures.done q i ∙ ap (λ (xs : List Aim). holds c.args.done.now.entries q i || surely_have xs q i) c.as_slice-2.ensures) c.in_ok-add_sure.ensures.logged
