use Rattle.std.proofs.Common.{sym, refl, arith}
use Rattle.lv_resolve_stmts.proofs.CaseLaws as law
use Rattle.lv_resolve_stmts.proofs.cases.common_arms.Goals as goal

pub loop-arm-init : goal.loop-arm-init
loop-arm-init g c = record { at = λ here ok. refl }

pub returns-in-Err : goal.returns-in-Err
returns-in-Err g c = record {
  at = λ here ok. law.arms-type-none here c.args.arms.now c.loop-arm.arm-index c.arm-item.result _ c.args.rest c.in-Err.error c.loop-arm-test.true (sym c.arm-item.is) c.as_slice.ensures
      (c.in-Err.ensures.at here ok).wrong;
}

pub loop-arm-preserved : goal.loop-arm-preserved
loop-arm-preserved g c = record {
  at = λ here ok. law.arms-more here c.args.arms.now c.loop-arm.arm-index c.arm-item.result _ c.args.rest c.loop-arm.c c.in-Ok.more c.loop-arm-test.true (sym c.arm-item.is)
      c.as_slice.ensures (c.loop-arm.invariant.at here ok) (c.in-Ok.ensures.at here ok).right;
}

pub returns : goal.returns
returns g c = record {
  at = λ here ok. law.arms-type-all here c.args.arms.now c.loop-arm.arm-index c.args.rest c.loop-arm.c (omega arith) (c.loop-arm.invariant.at here ok);
}
