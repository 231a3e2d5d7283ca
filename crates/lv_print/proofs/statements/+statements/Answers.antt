use Rattle.std.proofs.Common.{arith}
use Rattle.lv_print.specs.Sources.{stmt_tokens, arm_tokens}
use Rattle.lv_print.proofs.Papers.{joined_turn, joined_end}
use Rattle.lv_print.proofs.Papers.{ok-same}
use Rattle.lv_print.proofs.SourceRules.{if_written, case_written}
use Rattle.lv_print.proofs.statements.+statements.Goals as goal

pub stmts-loop-s-preserved : goal.stmts-loop-s-preserved
stmts-loop-s-preserved t c =
    joined_turn stmt_tokens c.args.list.now c.loop-s.s-index c.s-item.result c.loop-s.paper c.stmt.new.paper _ (omega arith) c.s-item.is c.in_ok-stmt.ensures c.loop-s.invariant

pub stmts-returns : goal.stmts-returns
stmts-returns t c = joined_end stmt_tokens c.args.list.now c.loop-s.s-index c.loop-s.paper _ (omega arith) c.loop-s.invariant

pub arms-loop-a-preserved : goal.arms-loop-a-preserved
arms-loop-a-preserved t c =
    joined_turn arm_tokens c.args.list.now c.loop-a.a-index c.a-item.result c.loop-a.paper c.arm.new.paper _ (omega arith) c.a-item.is c.in_ok-arm.ensures c.loop-a.invariant

pub arms-returns : goal.arms-returns
arms-returns t c = joined_end arm_tokens c.args.list.now c.loop-a.a-index c.loop-a.paper _ (omega arith) c.loop-a.invariant

pub stmt-returns-in_ok-stmt-in-If : goal.stmt-returns-in_ok-stmt-in-If
stmt-returns-in_ok-stmt-in-If t c =
    ok-same _ _ _ _ c.else_if.ensures
    (if_written c.args.s.now c.in-If.then c.get.result.now c.in-If.test c.in-If.other c.args.paper.now _ _ _ c.in-If.is c.get.ensures c.in_ok-word-in-If.ensures
    c.in_ok-condition-in-If.ensures c.in_ok-stmt-in-If.ensures)

pub stmt-returns-in_ok-arms-in-Case : goal.stmt-returns-in_ok-arms-in-Case
stmt-returns-in_ok-arms-in-Case t c =
    ok-same _ _ _ _ c.word-in-Case.ensures
    (case_written c.args.s.now c.in-Case.wild c.in-Case.x c.as_slice-in-Case.result.now c.in-Case.list c.args.paper.now _ _ _ c.in-Case.is c.as_slice-in-Case.ensures
    c.in_ok-case_word-in-Case.ensures c.in_ok-condition-in-Case.ensures c.in_ok-arms-in-Case.ensures)
