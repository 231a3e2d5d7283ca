use Rattle.std.proofs.Common.{sym, arith}
use Rattle.lv_flat.specs.Signals.{declared_all}
use Rattle.lv_resolve_stmts.proofs.CaseLaws as law
use Rattle.lv_resolve_stmts.proofs.cases.taken_labels.Goals as goal

pub loop-label-init : goal.loop-label-init
loop-label-init g c = record {
  at = λ here ok. law.labels-none here (declared_all c.args.place.now.signals.now) c.args.kind.width c.args.kind.signed c.no_labels-found.result c.no_labels-found.ensures.labels
      c.no_labels-found.ensures.clocks;
}

pub returns-in-Err : goal.returns-in-Err
returns-in-Err g c = record {
  at = λ here ok. law.label-none here (declared_all c.args.place.now.signals.now) c.args.kind.width c.args.kind.signed c.args.list.now c.loop-label.label-index c.label-item.result
      c.loop-label-test.true (sym c.label-item.is) c.in-Err.error (c.in-Err.ensures.at here ok).wrong;
}

pub returns-in-Err-with_label : goal.returns-in-Err-with_label
returns-in-Err-with_label g c = record {
  at = λ here ok. law.labels-full here (declared_all c.args.place.now.signals.now) c.args.kind.width c.args.kind.signed c.args.list.now c.in-Err-with_label.error c.in-Err-with_label.ensures.err;
}

pub loop-label-preserved : goal.loop-label-preserved
loop-label-preserved g c = record {
  at = λ here ok. law.labels-more here (declared_all c.args.place.now.signals.now) c.args.kind.width c.args.kind.signed c.args.list.now c.loop-label.label-index c.label-item.result
      c.loop-label-test.true (sym c.label-item.is) c.loop-label.found c.in-Ok-with_label.more c.in-Ok.one (c.loop-label.invariant.at here ok) (c.in-Ok.ensures.at here ok).right
      c.in-Ok-with_label.ensures.ok;
}

pub returns : goal.returns
returns g c = record {
  at = λ here ok. law.labels-all here (declared_all c.args.place.now.signals.now) c.args.kind.width c.args.kind.signed c.args.list.now c.loop-label.label-index c.loop-label.found (omega arith)
      (c.loop-label.invariant.at here ok);
}
