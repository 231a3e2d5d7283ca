use Rattle.lv_resolve_stmts.specs.Cases.{labels_in}
use Rattle.lv_resolve_stmts.proofs.CaseLaws as law
use Rattle.lv_resolve_stmts.proofs.cases.common_type.Goals as goal

pub returns-in-Err : goal.returns-in-Err
returns-in-Err g c = record {
  at = λ here ok. law.selector-none here c.args.selector.now (labels_in c.args.arms.now) c.in-Err.error (c.in-Err.ensures.at here ok).wrong;
}

pub returns-in-Ok : goal.returns-in-Ok
returns-in-Ok g c = record {
  at = λ here ok. law.common-answer here c.args.selector.now (labels_in c.args.arms.now) c.in-Ok.of c.common_arms.result (c.in-Ok.ensures.at here ok).right (c.common_arms.ensures.at here ok);
}
