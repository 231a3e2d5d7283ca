use Rattle.std.proofs.Common.{sym, arith}
use Rattle.lv_resolve.proofs.TargetArms.{none-fixed, indices-free, more-fixed, one-unfixed, all-fixed}
use Rattle.lv_resolve.proofs.target.indices.Goals as goal

pub returns-then-not-driven : goal.returns-then-not-driven
returns-then-not-driven g c = record {
  at = λ here ok. indices-free here c.args.selects.now c.args.driven c.if-not-driven.true;
}

pub loop-select-init : goal.loop-select-init
loop-select-init g c = record {
  at = λ here ok. none-fixed here;
}

pub returns-in-Err : goal.returns-in-Err
returns-in-Err g c = record {
  at = λ here ok. one-unfixed here c.args.selects.now c.loop-select.select-index c.select-item.result c.loop-select-test.true (sym c.select-item.is) c.args.driven c.in-Err.error c.if-not-driven.false (c.in-Err.ensures.at here ok).wrong;
}

pub loop-select-preserved : goal.loop-select-preserved
loop-select-preserved g c = record {
  at = λ here ok. more-fixed here c.args.selects.now c.loop-select.select-index c.select-item.result c.loop-select-test.true (sym c.select-item.is) (c.loop-select.invariant.at here ok) (c.in-Ok.ensures.at here ok).right;
}

pub returns : goal.returns
returns g c = record {
  at = λ here ok. all-fixed here c.args.selects.now c.loop-select.select-index c.args.driven (omega arith) (c.loop-select.invariant.at here ok);
}
