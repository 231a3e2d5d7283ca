use Rattle.std.proofs.Common.{◌∙◌, sym}
use Rattle.lv_flat.specs.Signals.{declared_all}
use Rattle.lv_parts.proofs.BlockLaws.{edge-answer}
use Rattle.lv_parts.proofs.name.edge.Goals as goal

pub returns-in-Ok-Some : goal.returns-in-Ok-Some
returns-in-Ok-Some g c = record {
  at = λ here ok. edge-answer (declared_all c.args.place.now.signals.now) (g.B.Bindings.numbers c.args.place.now.bindings.now) c.args.place.now.all.now
      c.args.place.now.early.now here ok c.args.clock.now c.in-Ok-Some.signal (sym c.in-Ok-Some.field-0-is ∙ c.in-Ok-Some.ensures);
}
