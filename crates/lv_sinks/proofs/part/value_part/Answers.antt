use Rattle.std.proofs.Common.{sym, ◌∙◌, subst}
use Rattle.lv_flat.specs.Signals.{declared_all}
use Rattle.lv_sinks.specs.Connected.{OutputAnswer, InputAnswer}
use Rattle.lv_resolve.proofs.SelectArms.{no-signal}
use Rattle.lv_sinks.proofs.PartLaws.{link-clock, link-output, link-input, around, clock-same, signal-width, signal-fits, nearer, h}
use Rattle.lv_sinks.proofs.part.value_part.Goals as goal

pub returns-in-None : goal.returns-in-None
returns-in-None g c = record {
  at = λ here ok. record { at = λ s child l n q p v w. absurd (no-signal c.args.place.now.signals.now c.args.port.signal c.in-None.ensures p.sort) };
}

pub returns-then-joins_clocks : goal.returns-then-joins_clocks
returns-then-joins_clocks g c = record {
  at = λ here ok. record {
    at = λ s child l n q p v w.
        let k = around c.args.place.now.signals.now (g.B.Bindings.numbers c.args.place.now.bindings.now) c.args.place.now.all.now c.args.place.now.early.now here ok s child l n in
        nearer c.args.place.now.signals.now (g.B.Bindings.numbers c.args.place.now.bindings.now) c.args.place.now.all.now c.args.place.now.early.now here ok s child l n _
        (link-clock (declared_all c.args.place.now.signals.now) s child l here.early c.args.value.now v
        (sym (c.joins_clocks.ensures.at (h (declared_all c.args.place.now.signals.now) s child l here.early) k ∙
        clock-same c.args.place.now.signals.now (g.B.Bindings.numbers c.args.place.now.bindings.now) c.args.place.now.all.now c.args.place.now.early.now here ok s child l n
        c.args.value.now c.args.port c.in-Some.signal.now p c.in-Some.ensures) ∙ c.if-joins_clocks.true));
  };
}

pub returns-then-port : goal.returns-then-port
returns-then-port g c = record {
  at = λ here ok. record {
    at = λ s child l n q p v w.
        let k = around c.args.place.now.signals.now (g.B.Bindings.numbers c.args.place.now.bindings.now) c.args.place.now.all.now c.args.place.now.early.now here ok s child l n in
        let far = h (declared_all c.args.place.now.signals.now) s child l here.early in
        nearer c.args.place.now.signals.now (g.B.Bindings.numbers c.args.place.now.bindings.now) c.args.place.now.all.now c.args.place.now.early.now here ok s child l n _
        (link-output (declared_all c.args.place.now.signals.now) s child l here.early c.args.value.now v c.args.port p
        (sym (c.joins_clocks.ensures.at far k ∙
        clock-same c.args.place.now.signals.now (g.B.Bindings.numbers c.args.place.now.bindings.now) c.args.place.now.all.now c.args.place.now.early.now here ok s child l n
        c.args.value.now c.args.port c.in-Some.signal.now p c.in-Some.ensures) ∙ c.if-joins_clocks.false)
        c.if-port.true c.output_part.result c.optional.result (signal-fits c.args.place.now.signals.now c.args.port.signal c.in-Some.signal.now c.in-Some.ensures)
        (subst (λ u. OutputAnswer (declared_all c.args.place.now.signals.now) far u c.args.port.signal c.args.value.now l.conn.place c.output_part.result) (sym q)
        (subst (λ u. OutputAnswer (declared_all c.args.place.now.signals.now) far c.args.path.now c.args.port.signal c.args.value.now u c.output_part.result) (sym w)
        (c.output_part.ensures.at far k)))
        c.optional.ensures);
  };
}

pub returns-else-port : goal.returns-else-port
returns-else-port g c = record {
  at = λ here ok. record {
    at = λ s child l n q p v w.
        let k = around c.args.place.now.signals.now (g.B.Bindings.numbers c.args.place.now.bindings.now) c.args.place.now.all.now c.args.place.now.early.now here ok s child l n in
        let far = h (declared_all c.args.place.now.signals.now) s child l here.early in
        nearer c.args.place.now.signals.now (g.B.Bindings.numbers c.args.place.now.bindings.now) c.args.place.now.all.now c.args.place.now.early.now here ok s child l n _
        (link-input (declared_all c.args.place.now.signals.now) s child l here.early c.args.value.now v c.args.port p
        (sym (c.joins_clocks.ensures.at far k ∙
        clock-same c.args.place.now.signals.now (g.B.Bindings.numbers c.args.place.now.bindings.now) c.args.place.now.all.now c.args.place.now.early.now here ok s child l n
        c.args.value.now c.args.port c.in-Some.signal.now p c.in-Some.ensures) ∙ c.if-joins_clocks.false)
        c.if-port.false c.in-Some.signal.now.width (signal-width c.args.place.now.signals.now c.args.port.signal c.in-Some.signal.now c.in-Some.ensures)
        c.input_part.result c.optional-in-Some.result (signal-fits c.args.place.now.signals.now c.args.port.signal c.in-Some.signal.now c.in-Some.ensures)
        (subst (λ u. InputAnswer (declared_all c.args.place.now.signals.now) far u c.args.port.signal c.in-Some.signal.now.width c.args.value.now l.conn.place c.input_part.result) (sym q)
        (subst (λ u. InputAnswer (declared_all c.args.place.now.signals.now) far c.args.path.now c.args.port.signal c.in-Some.signal.now.width c.args.value.now u c.input_part.result) (sym w)
        (c.input_part.ensures.at far k)))
        c.optional-in-Some.ensures);
  };
}
