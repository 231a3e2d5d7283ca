use Rattle.std.proofs.Common.{ap, ◌∙◌, subst, sym, refl, arith, rules, get_or, Err, false, ◌++◌, ◌&&◌}
use Rattle.std.proofs.lemmas.Grind.{common_steps}
use Rattle.lv_ast.specs.declared.stmt.Stmt.TheVariants as tree
use Rattle.lv_source.specs.Meaning.{read_expr}
use Rattle.lv_flat.proofs.Doings.{done_if, done_null}
use Rattle.lv_source.specs.Effect.{with_index}
use Rattle.lv_source.specs.Standing.{standing, at_turn, one, Test}
use Rattle.lv_flat.specs.Signals.{declared_all}
use Rattle.lv_flat.proofs.SourceDoings.{source_done}
use Rattle.lv_headers.specs.Turns.{Enters}
use Rattle.lv_headers.proofs.HeaderLaws.{index-found}
use Rattle.lv_resolve.specs.Forms.{has_operands}
use Rattle.lv_resolve_stmts.specs.Statements.{StmtAnswer, has_stmt_operands}
use Rattle.lv_resolve_stmts.proofs.StmtLaws as law
use Rattle.lv_resolve_stmts.proofs.CaseLaws as case
use Rattle.lv_resolve_stmts.proofs.LoopLaws.{moved-at, read-same, header-none, turns-none, turns-done, turns-has, Looped}
use Rattle.lv_resolve_stmts.proofs.stmt.+stmts.Goals as goal

pub resolve_stmt-returns-in-Null-clause-right : goal.resolve_stmt-returns-in-Null-clause-right
resolve_stmt-returns-in-Null-clause-right g t c = record {
  at = λ here ok. law.at-Null (declared_all c.args.signals.now) here c.args.stmt.now c.nothing.result c.in-Null.is c.nothing.ensures.stmt c.nothing.ensures.clocks;
}

pub resolve_stmt-returns-in-Err-clause-right : goal.resolve_stmt-returns-in-Err-clause-right
resolve_stmt-returns-in-Err-clause-right g t c = record {
  at = λ here ok. law.block-none (declared_all c.args.signals.now) here c.args.stmt.now c.in-Block.field-0 c.in-Block.body _ c.in-Err.error c.in-Block.is c.as_slice.ensures
      (c.in-Err.ensures.right.at here ok).wrong;
}

pub resolve_stmt-returns-in-Ok-clause-right : goal.resolve_stmt-returns-in-Ok-clause-right
resolve_stmt-returns-in-Ok-clause-right g t c = record {
  at = λ here ok. law.at-Block (declared_all c.args.signals.now) here c.args.stmt.now c.in-Block.field-0 c.in-Block.body _ c.in-Ok.found c.block_of.result c.in-Block.is c.as_slice.ensures
      (c.in-Ok.ensures.right.at here ok).right c.block_of.ensures.stmt c.block_of.ensures.clocks;
}

pub resolve_stmt-returns-in-None-clause-right : goal.resolve_stmt-returns-in-None-clause-right
resolve_stmt-returns-in-None-clause-right g t c = record {
  at = λ here ok. law.at-If (declared_all c.args.signals.now) here c.args.stmt.now c.in-If.test _ c.in-If.then _ c.one_branch.result (c.in-If.is ∙ ap (λ o. tree.If c.in-If.test c.in-If.then o) c.in-None.is)
      c.get-in-None.ensures c.get.ensures
      (c.one_branch.ensures.right.at here ok);
}

pub resolve_stmt-returns-in-Some-clause-right : goal.resolve_stmt-returns-in-Some-clause-right
resolve_stmt-returns-in-Some-clause-right g t c = record {
  at = λ here ok. law.at-If_else (declared_all c.args.signals.now) here c.args.stmt.now c.in-If.test _ c.in-If.then c.in-Some.other _ _ c.two_branches.result (c.in-If.is ∙ ap (λ o. tree.If c.in-If.test c.in-If.then o) c.in-Some.is)
      c.get-in-Some-3.ensures c.get-in-Some.ensures c.get-in-Some-2.ensures (c.two_branches.ensures.right.at here ok);
}

pub resolve_stmt-returns-in-Loop-clause-right : goal.resolve_stmt-returns-in-Loop-clause-right
resolve_stmt-returns-in-Loop-clause-right g t c = record {
  at = λ here ok. law.at-Loop (declared_all c.args.signals.now) here c.args.stmt.now c.in-Loop.index c.in-Loop.start c.in-Loop.test c.in-Loop.again c.in-Loop.next c.in-Loop.body _ _ _ _ c.looped.result c.in-Loop.is c.get-in-Loop-2.ensures c.get-in-Loop-3.ensures c.get-in-Loop-4.ensures c.get-in-Loop.ensures (c.looped.ensures.right.at here ok);
}

pub resolve_stmt-returns-in-Now-clause-right : goal.resolve_stmt-returns-in-Now-clause-right
resolve_stmt-returns-in-Now-clause-right g t c = record {
  at = λ here ok. law.at-Now (declared_all c.args.signals.now) here c.args.stmt.now c.in-Now.target c.in-Now.value _ c.in-Now.at c.assigned_at.result c.in-Now.is c.get-in-Now.ensures (c.assigned_at.ensures.at here ok.names);
}

pub resolve_stmt-returns-in-Later-clause-right : goal.resolve_stmt-returns-in-Later-clause-right
resolve_stmt-returns-in-Later-clause-right g t c = record {
  at = λ here ok. law.at-Later (declared_all c.args.signals.now) here c.args.stmt.now c.in-Later.target c.in-Later.value _ c.in-Later.at c.assigned_at-in-Later.result c.in-Later.is c.get-in-Later.ensures (c.assigned_at-in-Later.ensures.at here ok.names);
}

pub one_branch-returns-in-Err-clause-right : goal.one_branch-returns-in-Err-clause-right
one_branch-returns-in-Err-clause-right g t c = record {
  at = λ here ok. subst (λ e. StmtAnswer (declared_all c.args.signals.now) (one here (Test c.args.test.now) ++ standing here c.args.a.now) (done_if (read_expr here.names c.args.test.now) (source_done here.names c.args.a.now) done_null) (has_operands c.args.test.now && has_stmt_operands c.args.a.now) (Err e)) (sym c.of_node.ensures) (law.test-none (declared_all c.args.signals.now) here c.args.test.now (standing here c.args.a.now) _ _ c.in-Err.error (c.in-Err.ensures.at here ok.names).wrong);
}

pub one_branch-returns-in-Err-resolve_stmt-clause-right : goal.one_branch-returns-in-Err-resolve_stmt-clause-right
one_branch-returns-in-Err-resolve_stmt-clause-right g t c = record {
  at = λ here ok. law.below-none (declared_all c.args.signals.now) here (record { here = here; form = Test c.args.test.now }) (standing here c.args.a.now) _ _ c.in-Err-resolve_stmt.error (c.in-Err-resolve_stmt.ensures.right.at here ok).wrong;
}

pub one_branch-returns-in-Ok-resolve_stmt-clause-right : goal.one_branch-returns-in-Ok-resolve_stmt-clause-right
one_branch-returns-in-Ok-resolve_stmt-clause-right g t c = record {
  at = λ here ok. law.if-answer (declared_all c.args.signals.now) here c.args.test.now (standing here c.args.a.now) (source_done here.names c.args.a.now) (has_stmt_operands c.args.a.now) c.in-Ok.found c.in-Ok-resolve_stmt.a c.if_of.result (c.in-Ok.ensures.at here ok.names).right (c.in-Ok-resolve_stmt.ensures.right.at here ok).right c.if_of.ensures.ok c.if_of.ensures.err;
}

pub two_branches-returns-in-Err-clause-right : goal.two_branches-returns-in-Err-clause-right
two_branches-returns-in-Err-clause-right g t c = record {
  at = λ here ok. subst (λ e. StmtAnswer (declared_all c.args.signals.now) (one here (Test c.args.test.now) ++ (standing here c.args.a.now ++ standing here c.args.b.now)) (done_if (read_expr here.names c.args.test.now) (source_done here.names c.args.a.now) (source_done here.names c.args.b.now)) (has_operands c.args.test.now && (has_stmt_operands c.args.a.now && has_stmt_operands c.args.b.now)) (Err e)) (sym c.of_node.ensures) (law.test-none (declared_all c.args.signals.now) here c.args.test.now (standing here c.args.a.now ++ standing here c.args.b.now) _ _ c.in-Err.error (c.in-Err.ensures.at here ok.names).wrong);
}

pub two_branches-returns-in-Err-resolve_stmt-clause-right : goal.two_branches-returns-in-Err-resolve_stmt-clause-right
two_branches-returns-in-Err-resolve_stmt-clause-right g t c = record {
  at = λ here ok. law.first-none (declared_all c.args.signals.now) here (record { here = here; form = Test c.args.test.now }) (standing here c.args.a.now) (standing here c.args.b.now) _ _ c.in-Err-resolve_stmt.error (c.in-Err-resolve_stmt.ensures.right.at here ok).wrong;
}

pub two_branches-returns-in-Err-resolve_stmt-2-clause-right : goal.two_branches-returns-in-Err-resolve_stmt-2-clause-right
two_branches-returns-in-Err-resolve_stmt-2-clause-right g t c = record {
  at = λ here ok. law.second-none (declared_all c.args.signals.now) here (record { here = here; form = Test c.args.test.now }) (standing here c.args.a.now) (standing here c.args.b.now) _ _ c.in-Err-resolve_stmt-2.error (c.in-Err-resolve_stmt-2.ensures.right.at here (moved-at (declared_all c.args.signals.now) (g.B.Bindings.numbers c.args.bindings.now) (g.B.Indices.indices c.args.bindings.now) c.args.all.now c.args.early.now c.resolve_stmt.new.all c.resolve_stmt.new.early here c.in-Ok-resolve_stmt.ensures.all c.in-Ok-resolve_stmt.ensures.early ok)).wrong;
}

pub two_branches-returns-in-Ok-resolve_stmt-2-clause-right : goal.two_branches-returns-in-Ok-resolve_stmt-2-clause-right
two_branches-returns-in-Ok-resolve_stmt-2-clause-right g t c = record {
  at = λ here ok. law.else-answer (declared_all c.args.signals.now) here c.args.test.now (standing here c.args.a.now) (standing here c.args.b.now) (source_done here.names c.args.a.now) (source_done here.names c.args.b.now) (has_stmt_operands c.args.a.now) (has_stmt_operands c.args.b.now) c.in-Ok.found c.in-Ok-resolve_stmt.first c.in-Ok-resolve_stmt-2.second c.if_else.result (c.in-Ok.ensures.at here ok.names).right (c.in-Ok-resolve_stmt.ensures.right.at here ok).right (c.in-Ok-resolve_stmt-2.ensures.right.at here (moved-at (declared_all c.args.signals.now) (g.B.Bindings.numbers c.args.bindings.now) (g.B.Indices.indices c.args.bindings.now) c.args.all.now c.args.early.now c.resolve_stmt.new.all c.resolve_stmt.new.early here c.in-Ok-resolve_stmt.ensures.all c.in-Ok-resolve_stmt.ensures.early ok)).right c.if_else.ensures.ok c.if_else.ensures.err;
}

pub stmts-loop-stmt-init : goal.stmts-loop-stmt-init
stmts-loop-stmt-init g t c = (
  refl,
  refl,
  record {
    at = λ here ok. law.has-none (declared_all c.args.signals.now) (standing here) (source_done here.names) has_stmt_operands c.no_stmts-found.result c.no_stmts-found.ensures.stmts c.no_stmts-found.ensures.clocks;
  },
)

pub stmts-returns-in-Err-clause-right : goal.stmts-returns-in-Err-clause-right
stmts-returns-in-Err-clause-right g t c = record {
  at = λ here ok. law.at-none (declared_all c.args.signals.now) (standing here) (source_done here.names) has_stmt_operands c.args.list.now c.loop-stmt.stmt-index c.stmt-item.result c.loop-stmt-test.true (sym c.stmt-item.is) c.in-Err.error (c.in-Err.ensures.right.at here (moved-at (declared_all c.args.signals.now) (g.B.Bindings.numbers c.args.bindings.now) (g.B.Indices.indices c.args.bindings.now) c.args.all.now c.args.early.now c.loop-stmt.all c.loop-stmt.early here c.loop-stmt.invariant.0 c.loop-stmt.invariant.1 ok)).wrong;
}

pub stmts-returns-in-Err-with_stmt-clause-right : goal.stmts-returns-in-Err-with_stmt-clause-right
stmts-returns-in-Err-with_stmt-clause-right g t c = record {
  at = λ here ok. law.no-room (declared_all c.args.signals.now) _ _ _ c.in-Err-with_stmt.error c.in-Err-with_stmt.ensures.err;
}

pub stmts-loop-stmt-preserved : goal.stmts-loop-stmt-preserved
stmts-loop-stmt-preserved g t c = (
  c.in-Ok.ensures.all ∙ c.loop-stmt.invariant.0,
  c.in-Ok.ensures.early ∙ c.loop-stmt.invariant.1,
  record {
    at = λ here ok. law.has-more (declared_all c.args.signals.now) (standing here) (source_done here.names) has_stmt_operands c.args.list.now c.loop-stmt.stmt-index c.stmt-item.result c.loop-stmt-test.true (sym c.stmt-item.is) c.loop-stmt.found c.in-Ok-with_stmt.more
        c.in-Ok.one (c.loop-stmt.invariant.2.at here ok) (c.in-Ok.ensures.right.at here (moved-at (declared_all c.args.signals.now) (g.B.Bindings.numbers c.args.bindings.now) (g.B.Indices.indices c.args.bindings.now) c.args.all.now c.args.early.now c.loop-stmt.all c.loop-stmt.early here c.loop-stmt.invariant.0 c.loop-stmt.invariant.1 ok)).right c.in-Ok-with_stmt.ensures.ok;
  },
)

pub stmts-returns-clause-right : goal.stmts-returns-clause-right
stmts-returns-clause-right g t c = record {
  at = λ here ok. law.has-all (declared_all c.args.signals.now) (standing here) (source_done here.names) has_stmt_operands c.args.list.now c.loop-stmt.stmt-index c.loop-stmt.found (omega arith) (c.loop-stmt.invariant.2.at here ok);
}

pub looped-returns-in-Err-clause-right : goal.looped-returns-in-Err-clause-right
looped-returns-in-Err-clause-right g t c = record {
  at = λ here ok. subst (λ e. Looped (declared_all c.args.signals.now) here c.args.index.now c.args.start.now c.args.test.now c.args.again.now c.args.next.now c.args.body.now (Err e)) (sym c.of_header.ensures) (header-none (declared_all c.args.signals.now) here c.args.index.now c.args.start.now c.args.test.now c.args.again.now c.args.next.now c.args.body.now c.in-Err.error (c.in-Err.ensures.right.at here ok).wrong);
}

pub looped-returns-in-Err-turns-clause-right : goal.looped-returns-in-Err-turns-clause-right
looped-returns-in-Err-turns-clause-right g t c = record {
  at = λ here ok. turns-none (declared_all c.args.signals.now) here c.args.index.now c.args.start.now c.args.test.now c.args.again.now c.args.next.now c.args.body.now c.in-Ok.values (c.in-Ok.ensures.right.at here ok).right _ c.as_slice.ensures c.in-Err-turns.error (c.in-Err-turns.ensures.right.at here (moved-at (declared_all c.args.signals.now) (g.B.Bindings.numbers c.args.bindings.now) (g.B.Indices.indices c.args.bindings.now) c.args.all.now c.args.early.now c.header.new.all c.header.new.early here c.in-Ok.ensures.all c.in-Ok.ensures.early ok) (index-found false here.names c.args.index.now c.args.again.now (c.in-Ok.ensures.right.at here ok).right.named)).wrong;
}

pub looped-returns-clause-right : goal.looped-returns-clause-right
looped-returns-clause-right g t c = record {
  at = λ here ok. turns-done (declared_all c.args.signals.now) here c.args.index.now c.args.start.now c.args.test.now c.args.again.now c.args.next.now c.args.body.now c.in-Ok.values (c.in-Ok.ensures.right.at here ok).right _ c.as_slice.ensures c.in-Ok-turns.found c.block_of.result (c.in-Ok-turns.ensures.right.at here (moved-at (declared_all c.args.signals.now) (g.B.Bindings.numbers c.args.bindings.now) (g.B.Indices.indices c.args.bindings.now) c.args.all.now c.args.early.now c.header.new.all c.header.new.early here c.in-Ok.ensures.all c.in-Ok.ensures.early ok) (index-found false here.names c.args.index.now c.args.again.now (c.in-Ok.ensures.right.at here ok).right.named)).right c.block_of.ensures.stmt c.block_of.ensures.clocks;
}

pub turns-loop-value-init : goal.turns-loop-value-init
turns-loop-value-init g t c = (
  refl,
  refl,
  record {
    at = λ here ok i. law.has-none (declared_all c.args.signals.now) (λ k. standing (at_turn here c.args.index.now k) c.args.body.now) (λ k. source_done (with_index here.names c.args.index.now k) c.args.body.now) (λ k. has_stmt_operands c.args.body.now) c.no_stmts-found.result c.no_stmts-found.ensures.stmts c.no_stmts-found.ensures.clocks;
  },
)

pub turns-returns-in-Err-clause-right : goal.turns-returns-in-Err-clause-right
turns-returns-in-Err-clause-right g t c = record {
  at = λ here ok i. record { right = tt; wrong = (law.at-none (declared_all c.args.signals.now) (λ k. standing (at_turn here c.args.index.now k) c.args.body.now) (λ k. source_done (with_index here.names c.args.index.now k) c.args.body.now) (λ k. has_stmt_operands c.args.body.now) c.args.values.now c.loop-value.value-index (get_or c.args.values.now c.loop-value.value-index 0) c.loop-value-test.true (read-same c.args.values.now c.loop-value.value-index c.loop-value-test.true) c.in-Err.error (c.in-Err.ensures.right.at here (moved-at (declared_all c.args.signals.now) (g.B.Bindings.numbers c.args.bindings.now) (g.B.Indices.indices c.args.bindings.now) c.args.all.now c.args.early.now c.loop-value.all c.loop-value.early here c.loop-value.invariant.0 c.loop-value.invariant.1 ok) i).wrong).wrong };
}

pub turns-returns-in-Err-with_stmt-clause-right : goal.turns-returns-in-Err-with_stmt-clause-right
turns-returns-in-Err-with_stmt-clause-right g t c = record {
  at = λ here ok i. law.no-room (declared_all c.args.signals.now) _ _ _ c.in-Err-with_stmt.error c.in-Err-with_stmt.ensures.err;
}

pub turns-loop-value-preserved : goal.turns-loop-value-preserved
turns-loop-value-preserved g t c = (
  c.in-Ok.ensures.all ∙ c.loop-value.invariant.0,
  c.in-Ok.ensures.early ∙ c.loop-value.invariant.1,
  record {
    at = λ here ok i. law.has-more (declared_all c.args.signals.now) (λ k. standing (at_turn here c.args.index.now k) c.args.body.now) (λ k. source_done (with_index here.names c.args.index.now k) c.args.body.now) (λ k. has_stmt_operands c.args.body.now) c.args.values.now c.loop-value.value-index (get_or c.args.values.now c.loop-value.value-index 0) c.loop-value-test.true (read-same c.args.values.now c.loop-value.value-index c.loop-value-test.true) c.loop-value.found c.in-Ok-with_stmt.more
        c.in-Ok.one (c.loop-value.invariant.2.at here ok i) (c.in-Ok.ensures.right.at here (moved-at (declared_all c.args.signals.now) (g.B.Bindings.numbers c.args.bindings.now) (g.B.Indices.indices c.args.bindings.now) c.args.all.now c.args.early.now c.loop-value.all c.loop-value.early here c.loop-value.invariant.0 c.loop-value.invariant.1 ok) i).right c.in-Ok-with_stmt.ensures.ok;
  },
)

pub turns-returns-clause-right : goal.turns-returns-clause-right
turns-returns-clause-right g t c = record {
  at = λ here ok i. record { right = turns-has (declared_all c.args.signals.now) _ _ (has_stmt_operands c.args.body.now) c.args.values.now c.loop-value.found (law.has-all (declared_all c.args.signals.now) (λ k. standing (at_turn here c.args.index.now k) c.args.body.now) (λ k. source_done (with_index here.names c.args.index.now k) c.args.body.now) (λ k. has_stmt_operands c.args.body.now) c.args.values.now c.loop-value.value-index c.loop-value.found (omega arith) (c.loop-value.invariant.2.at here ok i)).right; wrong = tt };
}

pub turn-returns-clause-right : goal.turn-returns-clause-right
turn-returns-clause-right g t c = record {
  at = λ here ok i. c.resolve_stmt-answer.ensures.right.at (at_turn here c.args.index.now c.args.value) ((let e : Enters c.args.all.now c.args.early.now c.args.index.now c.args.value c.set_turn.new.all c.set_turn.new.early = first_of (search rules, grind (arith, common_steps)) in e).at (declared_all c.args.signals.now) (g.B.Bindings.numbers c.args.bindings.now) (g.B.Indices.indices c.args.bindings.now) here false i ok);
}

pub resolve_stmt-returns-in-Case-clause-right : goal.resolve_stmt-returns-in-Case-clause-right
resolve_stmt-returns-in-Case-clause-right g t c = record {
  at = λ here ok. case.at-Case here (declared_all c.args.signals.now) c.args.stmt.now c.in-Case.wild c.in-Case.selector _ c.in-Case.list _ c.case.result c.in-Case.is
      c.as_slice-in-Case.ensures c.get-in-Case.ensures (c.case.ensures.right.at here ok);
}

pub case-returns-in-Err-clause-right : goal.case-returns-in-Err-clause-right
case-returns-in-Err-clause-right g t c = record {
  at = λ here ok. case.head-none here (declared_all c.args.signals.now) c.args.wild c.args.selector.now c.args.list.now c.in-Err.error (c.in-Err.ensures.at here ok.names).wrong;
}

pub case-returns-in-Err-arms-clause-right : goal.case-returns-in-Err-arms-clause-right
case-returns-in-Err-arms-clause-right g t c = record {
  at = λ here ok. case.below-none here (declared_all c.args.signals.now) c.args.wild c.args.selector.now c.args.list.now c.in-Ok.head (c.in-Ok.ensures.at here ok.names).right
      c.in-Err-arms.error (c.in-Err-arms.ensures.right.at here ok).wrong;
}

pub case-returns-in-Ok-arms-clause-right : goal.case-returns-in-Ok-arms-clause-right
case-returns-in-Ok-arms-clause-right g t c = record {
  at = λ here ok. case.case-answer here (declared_all c.args.signals.now) c.args.wild c.args.selector.now c.args.list.now c.in-Ok.head (c.in-Ok.ensures.at here ok.names).right
      c.in-Ok-arms.found c.case_of.result (c.in-Ok-arms.ensures.right.at here ok).right c.case_of.ensures.ok c.case_of.ensures.err;
}

pub arms-returns-in-Err-clause-right : goal.arms-returns-in-Err-clause-right
arms-returns-in-Err-clause-right g t c = record {
  at = λ here ok. case.arm-label-none here (declared_all c.args.signals.now) c.args.kind.width c.args.kind.signed c.args.list.now c.loop-arm.arm-index c.arm-item.result c.loop-arm-test.true (sym c.arm-item.is) _ c.as_slice.ensures
      c.in-Err.error c.of_node.result c.of_node.ensures (c.in-Err.ensures.at here (moved-at (declared_all c.args.signals.now) (g.B.Bindings.numbers c.args.bindings.now) (g.B.Indices.indices c.args.bindings.now) c.args.all.now c.args.early.now c.loop-arm.all c.loop-arm.early here c.loop-arm.invariant.0 c.loop-arm.invariant.1 ok).names).wrong;
}

pub arms-returns-in-Err-resolve_stmt-clause-right : goal.arms-returns-in-Err-resolve_stmt-clause-right
arms-returns-in-Err-resolve_stmt-clause-right g t c = record {
  at = λ here ok. case.arm-body-none here (declared_all c.args.signals.now) c.args.kind.width c.args.kind.signed c.args.list.now c.loop-arm.arm-index c.arm-item.result c.in-Err-resolve_stmt.error c.loop-arm-test.true (sym c.arm-item.is)
      (c.in-Err-resolve_stmt.ensures.right.at here (moved-at (declared_all c.args.signals.now) (g.B.Bindings.numbers c.args.bindings.now) (g.B.Indices.indices c.args.bindings.now) c.args.all.now c.args.early.now c.loop-arm.all c.loop-arm.early here c.loop-arm.invariant.0 c.loop-arm.invariant.1 ok)).wrong;
}

pub arms-loop-arm-preserved : goal.arms-loop-arm-preserved
arms-loop-arm-preserved g t c = (
  c.in-Ok-resolve_stmt.ensures.all ∙ c.loop-arm.invariant.0,
  c.in-Ok-resolve_stmt.ensures.early ∙ c.loop-arm.invariant.1,
  record {
    at = λ here ok. case.arm-more here (declared_all c.args.signals.now) c.args.kind.width c.args.kind.signed c.args.list.now c.loop-arm.arm-index c.arm-item.result c.loop-arm-test.true (sym c.arm-item.is) _ c.as_slice.ensures c.loop-arm.found
        c.in-Ok-with_arm.more c.in-Ok.labels c.in-Ok-resolve_stmt.one (c.loop-arm.invariant.2.at here ok) (c.in-Ok.ensures.at here (moved-at (declared_all c.args.signals.now) (g.B.Bindings.numbers c.args.bindings.now) (g.B.Indices.indices c.args.bindings.now) c.args.all.now c.args.early.now c.loop-arm.all c.loop-arm.early here c.loop-arm.invariant.0 c.loop-arm.invariant.1 ok).names).right
        (c.in-Ok-resolve_stmt.ensures.right.at here (moved-at (declared_all c.args.signals.now) (g.B.Bindings.numbers c.args.bindings.now) (g.B.Indices.indices c.args.bindings.now) c.args.all.now c.args.early.now c.loop-arm.all c.loop-arm.early here c.loop-arm.invariant.0 c.loop-arm.invariant.1 ok)).right c.in-Ok-with_arm.ensures.ok;
  },
)
