use Rattle.std.proofs.Common.{subst, sym}
use Rattle.lv_flat.specs.Signals.{declared_all}
use Rattle.lv_resolve_stmts.proofs.AssignLaws.{Answer, target-none, value-none, assign-answer}
use Rattle.std.proofs.Common.{Err}
use Rattle.lv_resolve_stmts.proofs.assigns.assigned.Goals as goal

pub returns-in-Err : goal.returns-in-Err
returns-in-Err g c = record {
  at = λ here ok. subst (λ e. Answer (declared_all c.args.place.now.signals.now) here c.args.now c.args.target.now c.args.value.now c.args.at (Err e)) (sym c.of_node.ensures)
      (target-none (declared_all c.args.place.now.signals.now) here c.args.now c.args.target.now c.args.value.now c.args.at c.in-Err.error (c.in-Err.ensures.at here ok).wrong);
}

pub returns-in-Err-resolve_expr : goal.returns-in-Err-resolve_expr
returns-in-Err-resolve_expr g c = record {
  at = λ here ok. subst (λ e. Answer (declared_all c.args.place.now.signals.now) here c.args.now c.args.target.now c.args.value.now c.args.at (Err e)) (sym c.of_node-in-Err-resolve_expr.ensures)
      (value-none (declared_all c.args.place.now.signals.now) here c.args.now c.args.target.now c.args.value.now c.args.at c.in-Ok.to (c.in-Ok.ensures.at here ok).right
      c.in-Err-resolve_expr.error (c.in-Err-resolve_expr.ensures.at here ok).wrong);
}

pub returns-in-Ok-resolve_expr : goal.returns-in-Ok-resolve_expr
returns-in-Ok-resolve_expr g c = record {
  at = λ here ok. assign-answer (declared_all c.args.place.now.signals.now) here c.args.now c.args.target.now c.args.value.now c.args.at c.in-Ok.to (c.in-Ok.ensures.at here ok).right
      c.in-Ok-resolve_expr.from (c.in-Ok-resolve_expr.ensures.at here ok).right c.written.result c.written.ensures.ok c.written.ensures.err;
}
