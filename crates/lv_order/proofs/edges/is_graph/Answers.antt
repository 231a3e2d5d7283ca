use Rattle.std.proofs.Common.{◌≡◌, ◌<◌, true, false, length, sym, ap, ◌∙◌, arith}
use Rattle.std.proofs.lemmas.Bool.{true≢false}
use Rattle.lv_order.specs.Walks.{is_row}
use Rattle.lv_order.proofs.Rows.{rows_more, row_fails}
use Rattle.lv_order.proofs.edges.is_graph.Goals as goal

pub returns-then-not-is_row : goal.returns-then-not-is_row
returns-then-not-is_row c =
    let l : c.loop-row.row-index < length c.args.edges.now = omega arith in
    let h : is_row (length c.args.edges.now) c.row-item.result.items ≡ false =
    ap (is_row (length c.args.edges.now)) (sym c.as_slice.ensures.value) ∙ (sym c.is_row.ensures ∙ c.if-not-is_row.true) in
    (λ k. absurd (true≢false (sym k)), λ g. absurd (row_fails c.args.edges.now c.loop-row.row-index c.row-item.result l c.row-item.is h g))

pub loop-row-preserved : goal.loop-row-preserved
loop-row-preserved c =
    let l : c.loop-row.row-index < length c.args.edges.now = omega arith in
    let h : is_row (length c.args.edges.now) c.row-item.result.items ≡ true =
    ap (is_row (length c.args.edges.now)) (sym c.as_slice.ensures.value) ∙ (sym c.is_row.ensures ∙ c.if-not-is_row.false) in
    rows_more c.args.edges.now c.loop-row.row-index c.row-item.result l c.row-item.is h c.loop-row.invariant
