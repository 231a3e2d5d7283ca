use Rattle.std.proofs.Common.{sym, refl, arith}
use Rattle.lv_resolve_stmts.proofs.CaseLaws as law
use Rattle.lv_resolve_stmts.proofs.cases.common_labels.Goals as goal

pub loop-label-init : goal.loop-label-init
loop-label-init g c = record { at = λ here ok. refl }

pub returns-in-Err : goal.returns-in-Err
returns-in-Err g c = record {
  at = λ here ok. law.type-none here c.args.labels.now c.loop-label.label-index c.label-item.result c.args.rest c.in-Err.error c.loop-label-test.true (sym c.label-item.is)
      (c.in-Err.ensures.at here ok).wrong;
}

pub loop-label-preserved : goal.loop-label-preserved
loop-label-preserved g c = record {
  at = λ here ok. law.type-more here c.args.labels.now c.loop-label.label-index c.label-item.result c.args.rest c.loop-label.c c.in-Ok.of c.joined-c.result c.loop-label-test.true
      (sym c.label-item.is) (c.loop-label.invariant.at here ok) (c.in-Ok.ensures.at here ok).right c.joined-c.ensures.width c.joined-c.ensures.signed;
}

pub returns : goal.returns
returns g c = record {
  at = λ here ok. law.type-all here c.args.labels.now c.loop-label.label-index c.args.rest c.loop-label.c (omega arith) (c.loop-label.invariant.at here ok);
}
