use Rattle.std.proofs.Common.{subst, sym}
use Rattle.lv_flat.specs.Signals.{declared_all}
use Rattle.lv_late.specs.Settings.{IsFaultyValue}
use Rattle.lv_late.proofs.ValueLaws.{late-faulty, formed-value, refused-faulty}
use Rattle.lv_late.proofs.settings.value_fault.Goals as goal

pub returns-in-Some : goal.returns-in-Some
returns-in-Some g c = record {
  at = λ here ok. late-faulty (declared_all c.args.place.now.signals.now) (g.B.Bindings.numbers c.args.place.now.bindings.now) c.args.place.now.all.now
      c.args.place.now.early.now here ok c.args.value.now c.in-Some.error c.in-Some.ensures;
}

pub returns-in-Ok : goal.returns-in-Ok
returns-in-Ok g c = record {
  at = λ here ok. formed-value (declared_all c.args.place.now.signals.now) (g.B.Bindings.numbers c.args.place.now.bindings.now) c.args.place.now.all.now
      c.args.place.now.early.now here ok c.args.value.now c.in_default.ensures c.in-Ok.field-0.0 c.in-Ok.field-0.1 (c.in-Ok.ensures.at here ok.ahead).right;
}

pub returns-in-Err : goal.returns-in-Err
returns-in-Err g c = record {
  at = λ here ok. subst (IsFaultyValue here c.args.value.now) (sym c.kind.ensures)
      (refused-faulty (declared_all c.args.place.now.signals.now) (g.B.Bindings.numbers c.args.place.now.bindings.now) c.args.place.now.all.now
      c.args.place.now.early.now here ok c.args.value.now c.in_default.ensures c.in-Err.error (c.in-Err.ensures.at here ok.ahead).wrong);
}
