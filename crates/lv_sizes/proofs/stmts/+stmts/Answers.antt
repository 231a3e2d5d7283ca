use Rattle.std.proofs.Common.{◌≡◌, ℕ, suc, ◌+◌, ◌++◌, arith, ap, ◌∙◌, sym, subst, refl, map, sum, length, get_or, flat_map, true, false, rules}
use Rattle.lv_ast.specs.declared.expr.Expr.{Expr}
use Rattle.lv_ast.specs.Names.{alone}
use Rattle.lv_source.specs.Effect.{with_index}
use Rattle.lv_source.specs.Effect.{turns as loop_turns}
use Rattle.lv_source.specs.Limits.{nodes_alone, expr_nodes, stmt_size}
use Rattle.lv_source.specs.Standing.{standing, at_turn}
use Rattle.lv_flat.specs.Signals.{declared_all}
use Rattle.lv_headers.specs.Headers.{IsNoHeader}
use Rattle.lv_headers.specs.Turns.{Enters}
use Rattle.std.proofs.lemmas.Grind.{common_steps}
use Rattle.lv_headers.proofs.HeaderLaws.{index-found}
use Rattle.lv_sizes.specs.Counts.{added}
use Rattle.lv_sizes.specs.Totals.{plus, total, arm_size}
use Rattle.lv_sizes.specs.Sizes.{IsStandingFault}
use Rattle.lv_sizes.proofs.Sums.{sum-added, spends-same}
use Rattle.lv_sizes.proofs.LeftLaws.{moved-at, first-answer, second-answer, no-fault, so-far-none, so-far-over, so-far-more, so-far-end, read-same, standing-first, standing-second, standing-each, standing-header}
use Rattle.lv_sizes.proofs.StmtArms as arm
use Rattle.lv_sizes.proofs.stmts.+stmts.Goals as goal

pub spend_stmts-loop-stmt-init : goal.spend_stmts-loop-stmt-init
spend_stmts-loop-stmt-init g t c = (refl, refl, omega arith, record { at = λ here ok. so-far-none (total (stmt_size here.names) c.args.stmts.now) c.args.left })

pub spend_stmts-returns-in-Err-clause-right : goal.spend_stmts-returns-in-Err-clause-right
spend_stmts-returns-in-Err-clause-right g t c = record {
  at = λ here ok. so-far-over (stmt_size here.names) c.args.stmts.now c.loop-stmt.stmt-index c.args.left c.loop-stmt.rest (c.loop-stmt.invariant.3.at here ok) c.stmt-item.result c.loop-stmt-test.true (sym c.stmt-item.is) (IsStandingFault (standing here c.stmt-item.result))
      (IsStandingFault (flat_map (standing here) c.args.stmts.now)) (λ y k. standing-each (standing here) c.args.stmts.now c.loop-stmt.stmt-index c.stmt-item.result c.loop-stmt-test.true (sym c.stmt-item.is) y k) c.in-Err.error
      (c.in-Err.ensures.right.at here (moved-at (declared_all c.args.signals.now) (g.B.Bindings.numbers c.args.bindings.now) (g.B.Indices.indices c.args.bindings.now) c.args.all.now c.args.early.now c.loop-stmt.all c.loop-stmt.early here c.loop-stmt.invariant.0 c.loop-stmt.invariant.1 ok));
}

pub spend_stmts-loop-stmt-preserved : goal.spend_stmts-loop-stmt-preserved
spend_stmts-loop-stmt-preserved g t c = (
  c.in-Ok.ensures.all ∙ c.loop-stmt.invariant.0,
  c.in-Ok.ensures.early ∙ c.loop-stmt.invariant.1,
  omega (arith, c.in-Ok.ensures.less, c.loop-stmt.invariant.2),
  record {
    at = λ here ok. so-far-more (stmt_size here.names) c.args.stmts.now c.loop-stmt.stmt-index c.args.left c.loop-stmt.rest (c.loop-stmt.invariant.3.at here ok) c.stmt-item.result c.loop-stmt-test.true (sym c.stmt-item.is) c.in-Ok.next
        (c.in-Ok.ensures.right.at here (moved-at (declared_all c.args.signals.now) (g.B.Bindings.numbers c.args.bindings.now) (g.B.Indices.indices c.args.bindings.now) c.args.all.now c.args.early.now c.loop-stmt.all c.loop-stmt.early here c.loop-stmt.invariant.0 c.loop-stmt.invariant.1 ok)).right;
  },
)

pub spend_stmts-returns-clause-right : goal.spend_stmts-returns-clause-right
spend_stmts-returns-clause-right g t c = record {
  at = λ here ok. so-far-end (stmt_size here.names) c.args.stmts.now c.loop-stmt.stmt-index c.args.left c.loop-stmt.rest (c.loop-stmt.invariant.3.at here ok) (IsStandingFault (flat_map (standing here) c.args.stmts.now)) c.loop-stmt-test.false;
}

pub spend_arms-loop-arm-init : goal.spend_arms-loop-arm-init
spend_arms-loop-arm-init g t c = (refl, refl, omega arith, record { at = λ here ok. so-far-none (total (arm_size here.names) c.args.arms.now) c.args.left })

pub spend_arms-returns-in-Err-clause-right : goal.spend_arms-returns-in-Err-clause-right
spend_arms-returns-in-Err-clause-right g t c = record {
  at = λ here ok. so-far-over (arm_size here.names) c.args.arms.now c.loop-arm.arm-index c.args.left c.loop-arm.rest (c.loop-arm.invariant.3.at here ok) c.arm-item.result c.loop-arm-test.true (sym c.arm-item.is) (IsStandingFault (standing here c.arm-item.result.body))
      (IsStandingFault (flat_map (λ a. standing here a.body) c.args.arms.now)) (λ y k. standing-each (λ a. standing here a.body) c.args.arms.now c.loop-arm.arm-index c.arm-item.result c.loop-arm-test.true (sym c.arm-item.is) y k) c.in-Err.error
      (c.in-Err.ensures.right.at here (moved-at (declared_all c.args.signals.now) (g.B.Bindings.numbers c.args.bindings.now) (g.B.Indices.indices c.args.bindings.now) c.args.all.now c.args.early.now c.loop-arm.all c.loop-arm.early here c.loop-arm.invariant.0 c.loop-arm.invariant.1 ok));
}

pub spend_arms-loop-arm-preserved : goal.spend_arms-loop-arm-preserved
spend_arms-loop-arm-preserved g t c = (
  c.in-Ok.ensures.all ∙ c.loop-arm.invariant.0,
  c.in-Ok.ensures.early ∙ c.loop-arm.invariant.1,
  omega (arith, c.in-Ok.ensures.less, c.loop-arm.invariant.2),
  record {
    at = λ here ok. so-far-more (arm_size here.names) c.args.arms.now c.loop-arm.arm-index c.args.left c.loop-arm.rest (c.loop-arm.invariant.3.at here ok) c.arm-item.result c.loop-arm-test.true (sym c.arm-item.is) c.in-Ok.next
        (c.in-Ok.ensures.right.at here (moved-at (declared_all c.args.signals.now) (g.B.Bindings.numbers c.args.bindings.now) (g.B.Indices.indices c.args.bindings.now) c.args.all.now c.args.early.now c.loop-arm.all c.loop-arm.early here c.loop-arm.invariant.0 c.loop-arm.invariant.1 ok)).right;
  },
)

pub spend_arms-returns-clause-right : goal.spend_arms-returns-clause-right
spend_arms-returns-clause-right g t c = record {
  at = λ here ok. so-far-end (arm_size here.names) c.args.arms.now c.loop-arm.arm-index c.args.left c.loop-arm.rest (c.loop-arm.invariant.3.at here ok) (IsStandingFault (flat_map (λ a. standing here a.body) c.args.arms.now)) c.loop-arm-test.false;
}

pub spend_turns-loop-turn-init : goal.spend_turns-loop-turn-init
spend_turns-loop-turn-init g t c = (refl, refl, omega arith, record { at = λ here ok i. so-far-none (total (λ k. stmt_size (with_index here.names c.args.index.now.name k) c.args.body.now) c.args.turns.now) c.args.left })

pub spend_turns-returns-in-Err-clause-right : goal.spend_turns-returns-in-Err-clause-right
spend_turns-returns-in-Err-clause-right g t c = record {
  at = λ here ok. record {
    told = λ i. so-far-over (λ k. stmt_size (with_index here.names c.args.index.now.name k) c.args.body.now) c.args.turns.now c.loop-turn.turn-index c.args.left c.loop-turn.rest (c.loop-turn.invariant.3.at here ok i) (get_or c.args.turns.now c.loop-turn.turn-index 0) c.loop-turn-test.true (read-same c.args.turns.now c.loop-turn.turn-index c.loop-turn-test.true)
        (IsStandingFault (standing (at_turn here c.args.index.now.name (get_or c.args.turns.now c.loop-turn.turn-index 0)) c.args.body.now)) (IsStandingFault (flat_map (λ k. standing (at_turn here c.args.index.now.name k) c.args.body.now) c.args.turns.now))
        (λ y k. standing-each (λ k. standing (at_turn here c.args.index.now.name k) c.args.body.now) c.args.turns.now c.loop-turn.turn-index (get_or c.args.turns.now c.loop-turn.turn-index 0) c.loop-turn-test.true (read-same c.args.turns.now c.loop-turn.turn-index c.loop-turn-test.true) y k) c.in-Err.error
        ((c.in-Err.ensures.right.at here (moved-at (declared_all c.args.signals.now) (g.B.Bindings.numbers c.args.bindings.now) (g.B.Indices.indices c.args.bindings.now) c.args.all.now c.args.early.now c.loop-turn.all c.loop-turn.early here c.loop-turn.invariant.0 c.loop-turn.invariant.1 ok)).told i);
  };
}

pub spend_turns-loop-turn-preserved : goal.spend_turns-loop-turn-preserved
spend_turns-loop-turn-preserved g t c = (
  c.in-Ok.ensures.all ∙ c.loop-turn.invariant.0,
  c.in-Ok.ensures.early ∙ c.loop-turn.invariant.1,
  omega (arith, c.in-Ok.ensures.less, c.loop-turn.invariant.2),
  record {
    at = λ here ok i. so-far-more (λ k. stmt_size (with_index here.names c.args.index.now.name k) c.args.body.now) c.args.turns.now c.loop-turn.turn-index c.args.left c.loop-turn.rest (c.loop-turn.invariant.3.at here ok i) (get_or c.args.turns.now c.loop-turn.turn-index 0) c.loop-turn-test.true (read-same c.args.turns.now c.loop-turn.turn-index c.loop-turn-test.true) c.in-Ok.next
        ((c.in-Ok.ensures.right.at here (moved-at (declared_all c.args.signals.now) (g.B.Bindings.numbers c.args.bindings.now) (g.B.Indices.indices c.args.bindings.now) c.args.all.now c.args.early.now c.loop-turn.all c.loop-turn.early here c.loop-turn.invariant.0 c.loop-turn.invariant.1 ok)).told i).right;
  },
)

pub spend_turns-returns-clause-right : goal.spend_turns-returns-clause-right
spend_turns-returns-clause-right g t c = record {
  at = λ here ok. record {
    told = λ i. so-far-end (λ k. stmt_size (with_index here.names c.args.index.now.name k) c.args.body.now) c.args.turns.now c.loop-turn.turn-index c.args.left c.loop-turn.rest (c.loop-turn.invariant.3.at here ok i) (IsStandingFault (flat_map (λ k. standing (at_turn here c.args.index.now.name k) c.args.body.now) c.args.turns.now)) c.loop-turn-test.false;
  };
}

pub spend_turn-returns-clause-right : goal.spend_turn-returns-clause-right
spend_turn-returns-clause-right g t c = record {
  at = λ here ok. record {
    told = λ i. c.spend_stmt-answer.ensures.right.at (at_turn here c.args.index.now.name c.args.turn)
        ((let e : Enters c.args.all.now c.args.early.now c.args.index.now.name c.args.turn c.set_turn.new.all c.set_turn.new.early = first_of (search rules, grind (arith, common_steps)) in e).at (declared_all c.args.signals.now) (g.B.Bindings.numbers c.args.bindings.now) (g.B.Indices.indices c.args.bindings.now) here false i ok);
  };
}

pub spend_arm-returns-in-Err-clause-right : goal.spend_arm-returns-in-Err-clause-right
spend_arm-returns-in-Err-clause-right g t c = record {
  at = λ here ok. first-answer c.args.left (nodes_alone (sum (map expr_nodes c.args.arm.now.labels))) (stmt_size here.names c.args.arm.now.body) (λ y. ⊥) (IsStandingFault (standing here c.args.arm.now.body)) (no-fault (IsStandingFault (standing here c.args.arm.now.body))) c.in-Err.error
      (c.in-Err.ensures.right (sum (map expr_nodes c.args.arm.now.labels)) (spends-same c.args.left.nodes _ (sum (map expr_nodes c.args.arm.now.labels)) c.spend_exprs.result (ap (added expr_nodes) c.as_slice.ensures ∙ sym (sum-added expr_nodes c.args.arm.now.labels)) c.spend_exprs.ensures));
}

pub spend_arm-returns-in-Ok-clause-right : goal.spend_arm-returns-in-Ok-clause-right
spend_arm-returns-in-Ok-clause-right g t c = record {
  at = λ here ok. second-answer c.args.left c.in-Ok.rest (nodes_alone (sum (map expr_nodes c.args.arm.now.labels))) (stmt_size here.names c.args.arm.now.body) (IsStandingFault (standing here c.args.arm.now.body)) (IsStandingFault (standing here c.args.arm.now.body)) (λ y k. k) c.spend_stmt.result
      (c.in-Ok.ensures.right (sum (map expr_nodes c.args.arm.now.labels)) (spends-same c.args.left.nodes _ (sum (map expr_nodes c.args.arm.now.labels)) c.spend_exprs.result (ap (added expr_nodes) c.as_slice.ensures ∙ sym (sum-added expr_nodes c.args.arm.now.labels)) c.spend_exprs.ensures)).right (c.spend_stmt.ensures.right.at here ok);
}

pub spend_both-returns-in-Err-clause-right : goal.spend_both-returns-in-Err-clause-right
spend_both-returns-in-Err-clause-right g t c = record {
  at = λ here ok. first-answer c.args.left (stmt_size here.names c.args.a.now) (stmt_size here.names c.args.b.now) (IsStandingFault (standing here c.args.a.now))
      (IsStandingFault ((standing here c.args.a.now) ++ (standing here c.args.b.now))) (λ y k. standing-first (standing here c.args.a.now) (standing here c.args.b.now) y k) c.in-Err.error (c.in-Err.ensures.right.at here ok);
}

pub spend_both-returns-in-Ok-clause-right : goal.spend_both-returns-in-Ok-clause-right
spend_both-returns-in-Ok-clause-right g t c = record {
  at = λ here ok. second-answer c.args.left c.in-Ok.rest (stmt_size here.names c.args.a.now) (stmt_size here.names c.args.b.now) (IsStandingFault (standing here c.args.b.now))
      (IsStandingFault ((standing here c.args.a.now) ++ (standing here c.args.b.now))) (λ y k. standing-second (standing here c.args.a.now) (standing here c.args.b.now) y k) c.spend_stmt-in-Ok.result (c.in-Ok.ensures.right.at here ok).right
      (c.spend_stmt-in-Ok.ensures.right.at here (moved-at (declared_all c.args.signals.now) (g.B.Bindings.numbers c.args.bindings.now) (g.B.Indices.indices c.args.bindings.now) c.args.all.now c.args.early.now c.spend_stmt.new.all c.spend_stmt.new.early here c.in-Ok.ensures.all c.in-Ok.ensures.early ok));
}

pub spend_loop-returns-in-Err-clause-right : goal.spend_loop-returns-in-Err-clause-right
spend_loop-returns-in-Err-clause-right g t c = record {
  at = λ here ok. arm.none-loop here c.args.index.now c.args.start.now c.args.test.now c.args.again.now c.args.next.now c.args.body.now c.args.left c.in-Err.error (c.in-Err.ensures.right (suc (expr_nodes c.args.start.now + expr_nodes c.args.test.now + expr_nodes c.args.next.now)) c.spend_loop_header.ensures);
}

pub spend_loop-returns-in-Err-Fault-clause-right : goal.spend_loop-returns-in-Err-Fault-clause-right
spend_loop-returns-in-Err-Fault-clause-right g t c = record {
  at = λ here ok.
      let w = standing-header here c.args.index.now c.args.start.now c.args.test.now c.args.again.now c.args.next.now
      (flat_map (λ k. standing (at_turn here c.args.index.now.name k) c.args.body.now)
      (loop_turns here.names c.args.index.now.name c.args.start.now c.args.test.now c.args.next.now)) c.in-Err-Fault.error
      (subst (IsNoHeader here false c.args.index.now c.args.start.now c.args.test.now c.args.again.now c.args.next.now c.in-Ok.rest.turns)
      c.in-Err-Fault.field-0-is (c.in-Err-Fault.ensures.right.at here ok).wrong) in
      record {
        told = record {
          right = tt;
          wrong = rw c.in-Err-Fault.error-is w;
        };
      };
}

pub spend_loop-returns-in-Ok-header-clause-right : goal.spend_loop-returns-in-Ok-header-clause-right
spend_loop-returns-in-Ok-header-clause-right g t c = record {
  at = λ here ok. let h = (c.in-Ok-header.ensures.right.at here ok).right in
      arm.arm-turns here c.args.index.now c.args.start.now c.args.test.now c.args.again.now c.args.next.now c.args.body.now c.args.left c.in-Ok.rest c.without-rest.result c.as_slice.result.now c.len.result c.spend_turns.result
      (c.as_slice.ensures ∙ h.turns) (c.len.ensures ∙ sym (ap length c.as_slice.ensures)) c.without-rest.ensures.turns c.without-rest.ensures.nodes
      (c.in-Ok.ensures.right (suc (expr_nodes c.args.start.now + expr_nodes c.args.test.now + expr_nodes c.args.next.now)) c.spend_loop_header.ensures).right
      (index-found false here.names c.args.index.now c.args.again.now h.named)
      (c.spend_turns.ensures.right.at here (moved-at (declared_all c.args.signals.now) (g.B.Bindings.numbers c.args.bindings.now) (g.B.Indices.indices c.args.bindings.now) c.args.all.now c.args.early.now c.header.new.all c.header.new.early here c.in-Ok-header.ensures.all c.in-Ok-header.ensures.early ok));
}

pub spend_stmt-returns-in-Null-clause-right : goal.spend_stmt-returns-in-Null-clause-right
spend_stmt-returns-in-Null-clause-right g t c = record { at = λ here ok. arm.arm-Null here c.args.stmt.now c.args.left c.with_nodes.result c.in-Null.is (c.with_nodes.ensures.right 1 c.spend_node.ensures) }

pub spend_stmt-returns-in-Err-clause-right : goal.spend_stmt-returns-in-Err-clause-right
spend_stmt-returns-in-Err-clause-right g t c = record { at = λ here ok. arm.none-Block here c.args.stmt.now c.args.left c.in-Block.field-0 c.in-Block.body c.in-Block.body c.in-Block.is c.in-Err.error (c.in-Err.ensures.right 1 c.spend_node-in-Block.ensures) }

pub spend_stmt-returns-in-Ok-clause-right : goal.spend_stmt-returns-in-Ok-clause-right
spend_stmt-returns-in-Ok-clause-right g t c = record {
  at = λ here ok. arm.arm-Block here c.args.stmt.now c.args.left c.in-Block.field-0 c.in-Block.body c.as_slice.result.now c.in-Block.is c.as_slice.ensures c.in-Ok.rest c.spend_stmts.result
      (c.in-Ok.ensures.right 1 c.spend_node-in-Block.ensures).right (c.spend_stmts.ensures.right.at here ok);
}

pub spend_stmt-returns-in-Err-with_nodes-clause-right : goal.spend_stmt-returns-in-Err-with_nodes-clause-right
spend_stmt-returns-in-Err-with_nodes-clause-right g t c = record {
  at = λ here ok. arm.none-of_If here c.args.stmt.now c.args.left c.in-If.test c.get.result.now c.in-If.then c.in-If.other c.in-If.is c.get.ensures c.in-Err-with_nodes.error
      (c.in-Err-with_nodes.ensures.right (suc (expr_nodes c.get.result.now)) c.spend_test.ensures);
}

pub spend_stmt-returns-in-None-clause-right : goal.spend_stmt-returns-in-None-clause-right
spend_stmt-returns-in-None-clause-right g t c = record {
  at = λ here ok. arm.arm-If here c.args.stmt.now c.args.left c.in-If.test c.get.result.now c.in-If.then c.in-If.other c.in-If.is c.get.ensures c.in-None.is c.get-in-None.result.now
      c.get-in-None.ensures c.in-Ok-with_nodes.rest c.spend_stmt.result
      (c.in-Ok-with_nodes.ensures.right (suc (expr_nodes c.get.result.now)) c.spend_test.ensures).right (c.spend_stmt.ensures.right.at here ok);
}

pub spend_stmt-returns-in-Some-clause-right : goal.spend_stmt-returns-in-Some-clause-right
spend_stmt-returns-in-Some-clause-right g t c = record {
  at = λ here ok. arm.arm-If_else here c.args.stmt.now c.args.left c.in-If.test c.get.result.now c.in-If.then c.in-If.other c.in-If.is c.get.ensures c.in-Some.other c.in-Some.is
      c.get-in-Some.result.now c.get-in-Some-2.result.now c.get-in-Some.ensures c.get-in-Some-2.ensures c.in-Ok-with_nodes.rest c.spend_both.result
      (c.in-Ok-with_nodes.ensures.right (suc (expr_nodes c.get.result.now)) c.spend_test.ensures).right (c.spend_both.ensures.right.at here ok);
}

pub spend_stmt-returns-in-Err-with_nodes-2-clause-right : goal.spend_stmt-returns-in-Err-with_nodes-2-clause-right
spend_stmt-returns-in-Err-with_nodes-2-clause-right g t c = record {
  at = λ here ok. arm.none-Case here c.args.stmt.now c.args.left c.in-Case.field-0 c.in-Case.selector c.get-in-Case.result.now c.in-Case.arms c.in-Case.is c.get-in-Case.ensures
      c.in-Err-with_nodes-2.error (c.in-Err-with_nodes-2.ensures.right (suc (expr_nodes c.get-in-Case.result.now)) c.spend_test-in-Case.ensures);
}

pub spend_stmt-returns-in-Ok-with_nodes-2-clause-right : goal.spend_stmt-returns-in-Ok-with_nodes-2-clause-right
spend_stmt-returns-in-Ok-with_nodes-2-clause-right g t c = record {
  at = λ here ok. arm.arm-Case here c.args.stmt.now c.args.left c.in-Case.field-0 c.in-Case.selector c.get-in-Case.result.now c.in-Case.arms c.in-Case.is c.get-in-Case.ensures
      c.as_slice-in-Ok-with_nodes-2.result.now c.as_slice-in-Ok-with_nodes-2.ensures c.in-Ok-with_nodes-2.rest c.spend_arms.result
      (c.in-Ok-with_nodes-2.ensures.right (suc (expr_nodes c.get-in-Case.result.now)) c.spend_test-in-Case.ensures).right (c.spend_arms.ensures.right.at here ok);
}

pub spend_stmt-returns-in-Loop-clause-right : goal.spend_stmt-returns-in-Loop-clause-right
spend_stmt-returns-in-Loop-clause-right g t c = record {
  at = λ here ok. arm.arm-Loop here c.args.stmt.now c.args.left c.in-Loop.index c.in-Loop.again c.in-Loop.start c.in-Loop.test c.in-Loop.next c.get-in-Loop-2.result.now
      c.get-in-Loop-3.result.now c.get-in-Loop-4.result.now c.in-Loop.body c.get-in-Loop.result.now c.spend_loop.result c.in-Loop.is c.get-in-Loop.ensures
      c.get-in-Loop-2.ensures c.get-in-Loop-3.ensures c.get-in-Loop-4.ensures (c.spend_loop.ensures.right.at here ok);
}

pub spend_stmt-returns-in-Now-clause-right : goal.spend_stmt-returns-in-Now-clause-right
spend_stmt-returns-in-Now-clause-right g t c = record {
  at = λ here ok. arm.arm-Now here c.args.stmt.now c.args.left c.in-Now.target c.in-Now.value c.get-in-Now.result.now c.in-Now.field-2 c.with_nodes-in-Now.result c.in-Now.is c.get-in-Now.ensures
      (c.with_nodes-in-Now.ensures.right _ c.spend_assignment.ensures);
}

pub spend_stmt-returns-in-Later-clause-right : goal.spend_stmt-returns-in-Later-clause-right
spend_stmt-returns-in-Later-clause-right g t c = record {
  at = λ here ok. arm.arm-Later here c.args.stmt.now c.args.left c.in-Later.target c.in-Later.value c.get-in-Later.result.now c.in-Later.field-2 c.with_nodes-in-Later.result c.in-Later.is c.get-in-Later.ensures
      (c.with_nodes-in-Later.ensures.right _ c.spend_assignment-in-Later.ensures);
}
