use Rattle.std.proofs.Common.{sym, arith}
use Rattle.lv_flat.specs.Signals.{declared_all}
use Rattle.lv_resolve.proofs.TargetLaws as law
use Rattle.lv_resolve.proofs.target.+targets.Goals as goal

pub target_form-returns-in-Name : goal.target_form-returns-in-Name
target_form-returns-in-Name g t c = record {
  at = λ here ok. law.at-Name (declared_all c.args.place.now.signals.now) here c.args.driven c.args.target.now c.in-Name.path c.in-Name.selects _ c.target_name.result c.in-Name.is c.as_slice.ensures (c.target_name.ensures.at here ok);
}

pub target_form-returns-in-Err : goal.target_form-returns-in-Err
target_form-returns-in-Err g t c = record {
  at = λ here ok. law.cat-none (declared_all c.args.place.now.signals.now) here c.args.driven c.args.target.now c.in-Cat.parts _ c.in-Err.error c.in-Cat.is c.as_slice-in-Cat.ensures (c.in-Err.ensures.at here ok).wrong;
}

pub target_form-returns-in-Ok : goal.target_form-returns-in-Ok
target_form-returns-in-Ok g t c = record {
  at = λ here ok. law.at-Cat (declared_all c.args.place.now.signals.now) here c.args.driven c.args.target.now c.in-Cat.parts _ c.in-Ok.found c.joined.result c.in-Cat.is c.as_slice-in-Cat.ensures (c.in-Ok.ensures.at here ok).right
      c.joined.ensures.target c.joined.ensures.width c.joined.ensures.clocks;
}

pub target_forms-loop-target-init : goal.target_forms-loop-target-init
target_forms-loop-target-init g t c = record {
  at = λ here ok. law.no-goals (declared_all c.args.place.now.signals.now) here c.args.driven c.no_targets-found.result c.no_targets-found.ensures.targets c.no_targets-found.ensures.width c.no_targets-found.ensures.clocks;
}

pub target_forms-returns-in-Err : goal.target_forms-returns-in-Err
target_forms-returns-in-Err g t c = record {
  at = λ here ok. law.at-none (declared_all c.args.place.now.signals.now) here c.args.driven c.args.targets.now c.loop-target.target-index c.target-item.result c.loop-target-test.true (sym c.target-item.is) _ c.in-Err.error (c.in-Err.ensures.at here ok).wrong;
}

pub target_forms-returns-in-Err-with_target : goal.target_forms-returns-in-Err-with_target
target_forms-returns-in-Err-with_target g t c = record {
  at = λ here ok. law.at-memory (declared_all c.args.place.now.signals.now) here c.args.driven c.args.targets.now c.loop-target.target-index c.target-item.result c.loop-target-test.true (sym c.target-item.is) _ c.in-Err-with_target.error c.in-Err-with_target.ensures.err;
}

pub target_forms-loop-target-preserved : goal.target_forms-loop-target-preserved
target_forms-loop-target-preserved g t c = record {
  at = λ here ok. law.at-more (declared_all c.args.place.now.signals.now) here c.args.driven c.args.targets.now c.loop-target.target-index c.target-item.result c.loop-target-test.true (sym c.target-item.is) c.loop-target.found c.in-Ok-with_target.more c.in-Ok.one (c.loop-target.invariant.at here ok) (c.in-Ok.ensures.at here ok).right
      c.in-Ok-with_target.ensures.ok;
}

pub target_forms-returns : goal.target_forms-returns
target_forms-returns g t c = record {
  at = λ here ok. law.at-all (declared_all c.args.place.now.signals.now) here c.args.driven c.args.targets.now c.loop-target.target-index c.loop-target.found (omega arith) (c.loop-target.invariant.at here ok);
}
