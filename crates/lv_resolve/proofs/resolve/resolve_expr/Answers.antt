use Rattle.std.proofs.Common.{false}
use Rattle.lv_source.specs.Sites.{walk}
use Rattle.lv_flat.specs.Signals.{declared_all}
use Rattle.lv_resolve.specs.Forms.{read_sites, has_operands}
use Rattle.lv_resolve.proofs.Answered.{answer, answer-none}
use Rattle.lv_resolve.proofs.resolve.resolve_expr.Goals as goal

pub returns-in-Err : goal.returns-in-Err
returns-in-Err g c = record {
  at = λ here ok. answer-none here (declared_all c.args.place.now.signals.now) c.args.width c.args.expr.now c.in-Err.error (c.in-Err.ensures.at here ok).wrong;
}

pub returns-in-Ok : goal.returns-in-Ok
returns-in-Ok g c = record {
  at = λ here ok. answer here (declared_all c.args.place.now.signals.now) c.args.width c.args.expr.now c.in-Ok.found.operand.signed c.reached.result
      (c.in-Ok.ensures.at here ok).right.operand.signed
      (c.reached.ensures (declared_all c.args.place.now.signals.now) here (read_sites false (walk here.names c.args.expr.now)) (walk here.names c.args.expr.now)
      (has_operands c.args.expr.now) ok.constants (c.in-Ok.ensures.at here ok).right);
}
