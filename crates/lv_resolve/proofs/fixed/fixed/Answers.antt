use Rattle.lv_flat.specs.Signals.{declared_all}
use Rattle.lv_resolve.proofs.FixedLaws.{fixed-right, fixed-range, fixed-zero, fixed-late, fixed-never}
use Rattle.lv_resolve.proofs.fixed.fixed.Goals as goal

pub returns-in-Ok : goal.returns-in-Ok
returns-in-Ok g c = record { at = λ here ok. fixed-right here c.args.expr.now c.in-Ok.number (c.in-Ok.ensures.at here ok.ahead).right }

pub returns-in-Err-Range : goal.returns-in-Err-Range
returns-in-Err-Range g c = record { at = λ here ok. fixed-range here c.args.expr.now c.in-Err-Range.at _ c.in-Err-Range.field-0-is (c.in-Err-Range.ensures.at here ok.ahead).wrong }

pub returns-in-Err-ZeroDivisor : goal.returns-in-Err-ZeroDivisor
returns-in-Err-ZeroDivisor g c = record {
  at = λ here ok. fixed-zero here c.args.expr.now c.in-Err-ZeroDivisor.at _ c.in-Err-ZeroDivisor.field-0-is (c.in-Err-ZeroDivisor.ensures.at here ok.ahead).wrong;
}

pub returns-in-Some : goal.returns-in-Some
returns-in-Some g c = record {
  at = λ here ok. fixed-late (declared_all c.args.place.now.signals.now) (g.B.Bindings.numbers c.args.place.now.bindings.now) c.args.place.now.all.now
      c.args.place.now.early.now here ok c.args.expr.now c.in-Some.error c.in-Some.ensures;
}

pub returns-in-None : goal.returns-in-None
returns-in-None g c = record {
  at = λ here ok. fixed-never (declared_all c.args.place.now.signals.now) (g.B.Bindings.numbers c.args.place.now.bindings.now) c.args.place.now.all.now
      c.args.place.now.early.now here ok c.args.expr.now c.in-Err-NoValue.at _ _ c.in-None.ensures c.in-Err-NoValue.field-0-is (c.in-Err-NoValue.ensures.at here ok.ahead).wrong;
}
