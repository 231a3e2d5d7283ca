use Rattle.std.proofs.Common.{arith}
use Rattle.lv_print.specs.Expressions.{expr_tokens, select_tokens}
use Rattle.lv_print.proofs.Papers.{list_turn, list_end, joined_turn, joined_end}
use Rattle.lv_print.proofs.expr.+printing.Goals as goal

pub exprs-loop-e-preserved : goal.exprs-loop-e-preserved
exprs-loop-e-preserved t c =
    list_turn expr_tokens c.args.list.now c.loop-e.e-index c.e-item.result c.loop-e.first c.loop-e.paper c.comma.new.self c.expr.new.paper _ (omega arith) c.e-item.is c.in_ok-comma.ensures
    c.in_ok-expr.ensures c.loop-e.invariant

pub exprs-returns : goal.exprs-returns
exprs-returns t c = list_end expr_tokens c.args.list.now c.loop-e.e-index c.loop-e.first c.loop-e.paper _ (omega arith) c.loop-e.invariant

pub selects-loop-s-preserved : goal.selects-loop-s-preserved
selects-loop-s-preserved t c =
    joined_turn select_tokens c.args.selects.now c.loop-s.s-index c.s-item.result c.loop-s.paper c.select.new.paper _ (omega arith) c.s-item.is c.in_ok-select.ensures c.loop-s.invariant

pub selects-returns : goal.selects-returns
selects-returns t c = joined_end select_tokens c.args.selects.now c.loop-s.s-index c.loop-s.paper _ (omega arith) c.loop-s.invariant
