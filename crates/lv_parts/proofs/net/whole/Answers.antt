use Rattle.std.proofs.Common.{ap, ◌∙◌}
use Rattle.lv_flat.specs.Signals.{declared_all}
use Rattle.lv_parts.proofs.NetLaws.{whole-answer}
use Rattle.lv_parts.proofs.net.whole.Goals as goal

pub returns-in-Ok : goal.returns-in-Ok
returns-in-Ok g c = record {
  at = λ here ok. whole-answer (declared_all c.args.place.now.signals.now) here c.args.path.now c.args.signal c.args.width c.args.value.now c.args.at c.in-Ok.found
      c.into_parts-value.result.0 c.into_parts-value.result.1 c.into_inner.result (c.in-Ok.ensures.at here ok).right (ap (λ z. z.0) c.into_parts-value.ensures)
      (ap (λ z. z.1) c.into_parts-value.ensures) (c.into_inner.ensures ∙ c.whole_target-target.ensures) c.made.result c.made.ensures.ok c.made.ensures.err;
}
