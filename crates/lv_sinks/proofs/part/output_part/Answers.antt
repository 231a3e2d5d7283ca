use Rattle.std.proofs.Common.{ap, subst}
use Rattle.lv_flat.specs.Signals.{declared_all}
use Rattle.lv_sinks.specs.Sinks.{IsSunkOrNone}
use Rattle.lv_sinks.proofs.PartLaws.{output-right}
use Rattle.lv_sinks.proofs.part.output_part.Goals as goal

pub returns-in-Ok : goal.returns-in-Ok
returns-in-Ok g c = record {
  at = λ here ok. output-right (declared_all c.args.place.now.signals.now) here c.args.path.now c.args.signal c.args.value.now c.args.at c.in-Ok-Some.found
      c.into_parts-target.result.0 c.into_parts-target.result.1 c.whole_value-value.result c.in-Ok.part
      (subst (IsSunkOrNone (declared_all c.args.place.now.signals.now) here c.args.value.now) c.in-Ok-Some.field-0-is (c.in-Ok-Some.ensures.at here ok).right)
      (ap (λ z. z.0) c.into_parts-target.ensures) (ap (λ z. z.1) c.into_parts-target.ensures) c.whole_value-value.ensures c.in-Ok.ensures;
}
