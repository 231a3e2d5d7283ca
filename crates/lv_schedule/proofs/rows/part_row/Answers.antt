use Rattle.std.proofs.Common.{◌≡◌, ◌&&◌, ℕ, Bool, List, length, [], refl, sym, subst, ◌∙◌}
use Rattle.std.proofs.lemmas.Option.{slice_get_read}
use Rattle.lv_spans.specs.declared.span.Span.{Span}
use Rattle.lv_spans.specs.Sets.{Cell, has}
use Rattle.lv_spans.specs.Domain.{spans_have}
use Rattle.lv_schedule.specs.Tables.{AddsSpans, IsRow}
use Rattle.lv_schedule.proofs.Edges.{own_is, row_of, row_none}
use Rattle.lv_schedule.proofs.rows.part_row.Goals as goal

pub returns-then-is_edge : goal.returns-then-is_edge
returns-then-is_edge c =
    subst (IsRow c.args.extents.now c.args.count c.args.part) (sym c.new-none.ensures.items)
    (row_none c.args.extents.now c.args.count c.args.part c.index-extents-part.result
    (slice_get_read c.args.extents.now (length c.args.extents.now) c.args.part c.index-extents-part.result refl c.requires.there c.index-extents-part.is)
    (sym c.is_edge.ensures ∙ c.if-is_edge.true))

pub with_reads-requires-clause-own : goal.with_reads-requires-clause-own
with_reads-requires-clause-own c =
    own_is c.args.extents.now c.args.part c.index-extents-part.result c.is_combinational-alone.result c.in_ok-own.own
    (slice_get_read c.args.extents.now (length c.args.extents.now) c.args.part c.index-extents-part.result refl c.requires.there c.index-extents-part.is)
    (sym c.is_edge.ensures ∙ c.if-is_edge.false)
    (subst (λ (spans : List Span). (q : Cell) (i : ℕ) → has c.in_ok-own.own q i ≡ (c.is_combinational-alone.result && spans_have spans q i)) c.as_slice.ensures c.in_ok-own.ensures)

pub returns : goal.returns
returns c =
    row_of c.args.extents.now c.args.count c.args.part c.index-extents-part.result c.in_ok-row.row.items
    (slice_get_read c.args.extents.now (length c.args.extents.now) c.args.part c.index-extents-part.result refl c.requires.there c.index-extents-part.is)
    (sym c.is_edge.ensures ∙ c.if-is_edge.false)
    (subst (λ (b : Bool). AddsSpans c.args.extents.now c.args.count c.args.part b c.index-extents-part.result.reads [] c.in_ok-row.row.items) c.is_combinational-alone.ensures
    (subst (λ (spans : List Span). AddsSpans c.args.extents.now c.args.count c.args.part c.is_combinational-alone.result spans [] c.in_ok-row.row.items) c.as_slice-2.ensures
    (subst (λ (row : List ℕ). AddsSpans c.args.extents.now c.args.count c.args.part c.is_combinational-alone.result c.as_slice-2.result.now row c.in_ok-row.row.items)
    c.new-none.ensures.items c.in_ok-row.ensures)))
