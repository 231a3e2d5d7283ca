use Rattle.std.proofs.Common.{◌+◌, sym, ap, ◌∙◌}
use Rattle.lv_bindings.specs.declared.order.Standing.{Standing}
use Rattle.lv_bindings.specs.Tables.{bound_at, plain_bindings}
use Rattle.lv_bindings.proofs.TableLaws.{assigned_more}
use Rattle.lv_bindings.proofs.table.bindings_of.Goals as goal

pub loop-index-preserved : goal.loop-index-preserved
loop-index-preserved c =
    c.bind.ensures ∙ ap (λ (z : Standing). bound_at c.loop-index.bindings.items z.number (c.args.first + c.loop-index.index)) (sym c.index-order-index.is) ∙
    ap (λ bs. bound_at bs c.index-order-index.result.number (c.args.first + c.loop-index.index)) c.loop-index.invariant ∙
    assigned_more c.args.first c.args.order.now c.loop-index.index c.index-order-index.result (plain_bindings c.args.symbols.now c.args.groups.now)
    c.loop-index-test.true c.index-order-index.is
