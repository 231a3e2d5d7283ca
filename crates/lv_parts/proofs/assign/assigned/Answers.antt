use Rattle.lv_flat.specs.Signals.{declared_all}
use Rattle.lv_parts.proofs.AssignLaws.{target-none, value-none, assign-answer}
use Rattle.lv_parts.proofs.assign.assigned.Goals as goal

pub returns-in-Err : goal.returns-in-Err
returns-in-Err g c = record {
  at = λ here ok. target-none (declared_all c.args.place.now.signals.now) here c.args.path.now c.args.assign.now c.in-Err.error c.of_node.result c.of_node.ensures
      (c.in-Err.ensures.at here ok).wrong;
}

pub returns-in-Err-resolve_expr : goal.returns-in-Err-resolve_expr
returns-in-Err-resolve_expr g c = record {
  at = λ here ok. value-none (declared_all c.args.place.now.signals.now) here c.args.path.now c.args.assign.now c.in-Ok.to (c.in-Ok.ensures.at here ok).right c.get.result.now
      c.get.ensures c.in-Err-resolve_expr.error c.of_node-in-Err-resolve_expr.result c.of_node-in-Err-resolve_expr.ensures (c.in-Err-resolve_expr.ensures.at here ok).wrong;
}

pub returns-in-Ok-resolve_expr : goal.returns-in-Ok-resolve_expr
returns-in-Ok-resolve_expr g c = record {
  at = λ here ok. assign-answer (declared_all c.args.place.now.signals.now) here c.args.path.now c.args.assign.now c.in-Ok.to (c.in-Ok.ensures.at here ok).right c.get.result.now
      c.get.ensures c.in-Ok-resolve_expr.from (c.in-Ok-resolve_expr.ensures.at here ok).right c.joined.result c.joined.ensures;
}
