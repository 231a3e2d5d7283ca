use Rattle.std.proofs.Common.{ap}
use Rattle.lv_flat.specs.Signals.{declared_all}
use Rattle.lv_sinks.proofs.PartLaws.{input-right}
use Rattle.lv_sinks.proofs.part.input_part.Goals as goal

pub returns-in-Ok-assigned : goal.returns-in-Ok-assigned
returns-in-Ok-assigned g c = record {
  at = λ here ok. input-right (declared_all c.args.place.now.signals.now) here c.args.path.now c.args.signal c.args.value.now c.args.at c.args.width c.in-Ok.found
      c.into_parts-value.result.0 c.into_parts-value.result.1 c.whole_target-target.result c.in-Ok-assigned.part (c.in-Ok.ensures.at here ok).right
      (ap (λ z. z.0) c.into_parts-value.ensures) (ap (λ z. z.1) c.into_parts-value.ensures) c.whole_target-target.ensures c.in-Ok-assigned.ensures;
}
