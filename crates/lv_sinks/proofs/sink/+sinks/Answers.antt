use Rattle.std.proofs.Common.{[], ◌++◌, sym, subst, true, arith}
use Rattle.lv_flat.specs.Signals.{declared_all}
use Rattle.lv_sinks.specs.Sinks.{HasSinkOrNone, HasSinksOrNone}
use Rattle.lv_sinks.proofs.SinkReads.{sink-other}
use Rattle.lv_sinks.proofs.SinkLaws as law
use Rattle.lv_sinks.proofs.sink.+sinks.Goals as goal

pub sink_form-returns-in-Err : goal.sink_form-returns-in-Err
sink_form-returns-in-Err g t c = record {
  at = λ here ok. law.no-Name (declared_all c.args.place.now.signals.now) here c.args.expr.now c.in-Name.path c.in-Name.selects _ c.in-Err.error c.in-Name.is c.as_slice.ensures
      (c.in-Err.ensures.at here ok).wrong;
}

pub sink_form-returns-in-Ok : goal.sink_form-returns-in-Ok
sink_form-returns-in-Ok g t c = record {
  at = λ here ok. law.at-Name (declared_all c.args.place.now.signals.now) here c.args.expr.now c.in-Name.path c.in-Name.selects _ c.in-Ok.found c.in-Name.is c.as_slice.ensures
      (c.in-Ok.ensures.at here ok).right;
}

pub sink_form-returns-in-Err-sink_forms : goal.sink_form-returns-in-Err-sink_forms
sink_form-returns-in-Err-sink_forms g t c = record {
  at = λ here ok. law.no-Cat (declared_all c.args.place.now.signals.now) here c.args.expr.now c.in-Cat.parts _ c.in-Err-sink_forms.error c.in-Cat.is c.as_slice-in-Cat.ensures
      (c.in-Err-sink_forms.ensures.at here ok).wrong;
}

pub sink_forms-loop-expr-init : goal.sink_forms-loop-expr-init
sink_forms-loop-expr-init g t c = record {
  at = λ here ok. (
    [],
    law.no-sinks (declared_all c.args.place.now.signals.now) here c.no_targets-found.result c.no_targets-found.ensures.targets c.no_targets-found.ensures.width
        c.no_targets-found.ensures.clocks,
  );
}

pub sink_forms-returns-in-Err : goal.sink_forms-returns-in-Err
sink_forms-returns-in-Err g t c = record {
  at = λ here ok. law.sinks-told (declared_all c.args.place.now.signals.now) here c.args.exprs.now c.loop-expr.expr-index c.expr-item.result c.loop-expr-test.true (sym c.expr-item.is) c.in-Err.error
      ((c.in-Err.ensures.at here ok).wrong true);
}

pub sink_forms-returns-in-Ok-None : goal.sink_forms-returns-in-Ok-None
sink_forms-returns-in-Ok-None g t c = record {
  at = λ here ok. law.sinks-none (declared_all c.args.place.now.signals.now) here c.args.exprs.now c.loop-expr.expr-index c.expr-item.result c.loop-expr-test.true (sym c.expr-item.is)
      (subst (HasSinkOrNone (declared_all c.args.place.now.signals.now) here c.expr-item.result) c.in-Ok-None.field-0-is (c.in-Ok-None.ensures.at here ok).right);
}

pub sink_forms-loop-expr-preserved : goal.sink_forms-loop-expr-preserved
sink_forms-loop-expr-preserved g t c = record {
  at = λ here ok.
      let a = c.loop-expr.invariant.at here ok in
      let b = subst (HasSinkOrNone (declared_all c.args.place.now.signals.now) here c.expr-item.result) c.in-Ok-Some.field-0-is (c.in-Ok-Some.ensures.at here ok).right in (
        a.0 ++ b.0,
        law.sinks-more (declared_all c.args.place.now.signals.now) here c.args.exprs.now c.loop-expr.expr-index c.expr-item.result c.loop-expr-test.true (sym c.expr-item.is)
            a.0 b.0 c.loop-expr.found c.in-Ok.more c.in-Ok-Some.one a.1 b.1 c.in-Ok.ensures.ok,
      );
}

pub sink_forms-returns : goal.sink_forms-returns
sink_forms-returns g t c = record {
  at = λ here ok.
      let a = c.loop-expr.invariant.at here ok in
      law.sinks-all (declared_all c.args.place.now.signals.now) here c.args.exprs.now c.loop-expr.expr-index a.0 c.loop-expr.found (omega arith) a.1;
}

pub sink_form-returns-in-Ok-None : goal.sink_form-returns-in-Ok-None
sink_form-returns-in-Ok-None g t c = record {
  at = λ here ok. law.none-Cat (declared_all c.args.place.now.signals.now) here c.args.expr.now c.in-Cat.parts _ c.in-Cat.is c.as_slice-in-Cat.ensures
      (subst (HasSinksOrNone (declared_all c.args.place.now.signals.now) here c.as_slice-in-Cat.result.now) c.in-Ok-None.field-0-is (c.in-Ok-None.ensures.at here ok).right);
}

pub sink_form-returns-in-Ok-Some : goal.sink_form-returns-in-Ok-Some
sink_form-returns-in-Ok-Some g t c = record {
  at = λ here ok.
      let q = subst (HasSinksOrNone (declared_all c.args.place.now.signals.now) here c.as_slice-in-Cat.result.now) c.in-Ok-Some.field-0-is (c.in-Ok-Some.ensures.at here ok).right in
      law.cat-answer (declared_all c.args.place.now.signals.now) here c.args.expr.now c.in-Cat.parts c.as_slice-in-Cat.result.now q.0 c.in-Ok-Some.found c.concatenated.result
      c.in-Cat.is c.as_slice-in-Cat.ensures q.1 c.concatenated.ensures.ok c.concatenated.ensures.err;
}

pub sink_form-returns-in_default : goal.sink_form-returns-in_default
sink_form-returns-in_default g t c = record {
  at = λ here ok. law.at-other (declared_all c.args.place.now.signals.now) here c.args.expr.now
      (sink-other here.names c.args.expr.now c.in_default.not-Name c.in_default.not-Cat);
}
