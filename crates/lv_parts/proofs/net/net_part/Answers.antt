use Rattle.std.proofs.Common.{◌∙◌, sym}
use Rattle.lv_flat.specs.Signals.{declared_all}
use Rattle.lv_parts.proofs.NetLaws.{no-net, value-answer}
use Rattle.lv_ast.specs.Names.{alone}
use Rattle.lv_parts.proofs.net.net_part.Goals as goal

pub returns-in-None : goal.returns-in-None
returns-in-None g c = record {
  at = λ here ok n. absurd (no-net c.args.place.now.signals.now (g.B.Bindings.numbers c.args.place.now.bindings.now) c.args.place.now.all.now
      c.args.place.now.early.now here ok (alone c.args.name.now.name) c.in-Ok-Some.number (sym c.in-Ok-Some.field-0-is ∙ c.in-Ok-Some.ensures) c.in-None.ensures);
}

pub returns-in-Some : goal.returns-in-Some
returns-in-Some g c = record {
  at = λ here ok n. value-answer c.args.place.now.signals.now (g.B.Bindings.numbers c.args.place.now.bindings.now) c.args.place.now.all.now
      c.args.place.now.early.now here ok c.args.path.now c.args.name.now c.args.value.now c.in-Ok-Some.number (sym c.in-Ok-Some.field-0-is ∙ c.in-Ok-Some.ensures) c.in-Some.signal.now c.in-Some.ensures
      c.whole.result (c.whole.ensures.at here ok);
}
