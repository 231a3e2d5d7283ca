use Rattle.std.proofs.Common.{Err, subst, sym, ◌∙◌}
use Rattle.lv_flat.specs.Signals.{declared_all}
use Rattle.lv_resolve_stmts.specs.Cases.{HeadAnswer}
use Rattle.lv_resolve_stmts.proofs.CaseLaws as law
use Rattle.lv_resolve_stmts.proofs.cases.taken_head.Goals as goal

pub returns-then-has_two_defaults : goal.returns-then-has_two_defaults
returns-then-has_two_defaults g c = record {
  at = λ here ok. law.duplicate-none here (declared_all c.args.place.now.signals.now) c.args.selector.now c.args.arms.now c.place_of.result
      (sym c.has_two_defaults.ensures ∙ c.if-has_two_defaults.true) c.place_of.ensures;
}

pub returns-in-Err : goal.returns-in-Err
returns-in-Err g c = record {
  at = λ here ok. subst (λ e. HeadAnswer (declared_all c.args.place.now.signals.now) here c.args.selector.now c.args.arms.now (Err e)) (sym c.of_node.ensures)
      (law.common-none here (declared_all c.args.place.now.signals.now) c.args.selector.now c.args.arms.now c.in-Err.error (c.in-Err.ensures.at here ok).wrong);
}

pub returns-in-Err-resolve_taken : goal.returns-in-Err-resolve_taken
returns-in-Err-resolve_taken g c = record {
  at = λ here ok. subst (λ e. HeadAnswer (declared_all c.args.place.now.signals.now) here c.args.selector.now c.args.arms.now (Err e)) (sym c.of_node-in-Err-resolve_taken.ensures)
      (law.taken-none here (declared_all c.args.place.now.signals.now) c.args.selector.now c.args.arms.now c.in-Ok.kind (c.in-Ok.ensures.at here ok).right
      c.in-Err-resolve_taken.error (c.in-Err-resolve_taken.ensures.at here ok).wrong);
}
