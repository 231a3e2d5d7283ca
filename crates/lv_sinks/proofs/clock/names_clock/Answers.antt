use Rattle.std.proofs.Common.{◌∙◌}
use Rattle.lv_sinks.proofs.ClockLaws.{clock-no_number, clock-signal}
use Rattle.lv_sinks.proofs.clock.names_clock.Goals as goal

pub returns-in-None-signal_at : goal.returns-in-None-signal_at
returns-in-None-signal_at g c = record {
  at = λ here ok. clock-no_number c.args.place.now.signals.now (g.B.Bindings.numbers c.args.place.now.bindings.now) c.args.place.now.all.now c.args.place.now.early.now here ok
      c.args.path.now c.in-Some.number _ c.in-Some.ensures c.in-None-signal_at.ensures;
}

pub returns-in-Some-signal_at : goal.returns-in-Some-signal_at
returns-in-Some-signal_at g c = record {
  at = λ here ok. c.is_clock_signal.ensures ∙ clock-signal c.args.place.now.signals.now (g.B.Bindings.numbers c.args.place.now.bindings.now) c.args.place.now.all.now
      c.args.place.now.early.now here ok c.args.path.now c.in-Some.number c.in-Some-signal_at.signal.now c.in-Some.ensures c.in-Some-signal_at.ensures;
}
