use Rattle.lv_print.proofs.Papers.{ok-same, loop_written}
use Rattle.lv_print.proofs.statements.loop_start.Goals as goal

pub returns : goal.returns
returns c =
    ok-same _ _ _ _ c.mark-4.ensures
    (loop_written _ _ _ _ _ _ _ _ _ _ _ _ _ _ _ _ c.in_ok-word.ensures c.in_ok-mark.ensures c.in_ok-name.ensures c.in_ok-mark-2.ensures c.in_ok-expr.ensures c.in_ok-mark-3.ensures
    c.in_ok-expr-2.ensures)
