use Rattle.std.proofs.Common.{false, ap, refl, subst}
use Rattle.lv_flat.specs.Signals.{declared_all}
use Rattle.lv_sinks.specs.Sinks.{HasSinkOrNone}
use Rattle.lv_sinks.proofs.SinkLaws.{sunk-told, sunk-none, sunk-right}
use Rattle.lv_source.specs.Parts.{as_target}
use Rattle.lv_sinks.proofs.ShapeLaws.{is-there, is-absent}
use Rattle.lv_sinks.proofs.sink.resolve_sink.Goals as goal

pub returns-in-Err : goal.returns-in-Err
returns-in-Err g c = record {
  at = λ here ok. sunk-told (declared_all c.args.place.now.signals.now) here c.args.expr.now c.in-Err.error
      (is-there (as_target here.names c.args.expr.now) c.is_sink.result (c.is_sink.ensures here.names) c.if-not-is_sink.false) ((c.in-Err.ensures.at here ok).wrong false);
}

pub returns-in-Ok-Some : goal.returns-in-Ok-Some
returns-in-Ok-Some g c = record {
  at = λ here ok.
      let q = subst (HasSinkOrNone (declared_all c.args.place.now.signals.now) here c.args.expr.now) c.in-Ok-Some.field-0-is (c.in-Ok-Some.ensures.at here ok).right in
      sunk-right (declared_all c.args.place.now.signals.now) here c.args.expr.now q.0 c.in-Ok-Some.found _ q.1 (ap (λ z. z.0) c.into_parts-target.ensures) c.min-width.ensures
      (ap (λ z. z.1) c.into_parts-target.ensures);
}

pub returns-then-not-is_sink : goal.returns-then-not-is_sink
returns-then-not-is_sink g c = record {
  at = λ here ok. sunk-none (declared_all c.args.place.now.signals.now) here c.args.expr.now
      (is-absent (as_target here.names c.args.expr.now) c.is_sink.result (c.is_sink.ensures here.names) c.if-not-is_sink.true);
}
