use Rattle.std.proofs.Common.{ap, sym, ◌∙◌, refl}
use Rattle.lv_source.specs.Sites.{Driven}
use Rattle.lv_flat.specs.Signals.{declared_all}
use Rattle.lv_resolve.proofs.TargetArms.{whole-none, whole-wide, whole-right}
use Rattle.lv_resolve.proofs.target.resolve_target.Goals as goal

pub returns-in-Err : goal.returns-in-Err
returns-in-Err g c = record {
  at = λ here ok. whole-none (declared_all c.args.place.now.signals.now) here c.args.driven c.args.target.now c.in-Err.error (c.in-Err.ensures.at here ok).wrong;
}

pub returns-then-not-fits : goal.returns-then-not-fits
returns-then-not-fits g c = record {
  at = λ here ok. whole-wide (declared_all c.args.place.now.signals.now) here c.args.driven c.args.target.now c.in-Ok.found (c.in-Ok.ensures.at here ok).right c.first_place.result (sym c.fits.ensures ∙ c.if-not-fits.true) (c.first_place.ensures here.names Driven);
}

pub returns-else-not-fits : goal.returns-else-not-fits
returns-else-not-fits g c = record {
  at = λ here ok. whole-right (declared_all c.args.place.now.signals.now) here c.args.driven c.args.target.now c.in-Ok.found (c.in-Ok.ensures.at here ok).right _ (sym c.fits.ensures ∙ c.if-not-fits.false)
      (ap (λ z. z.0) c.into_parts-target.ensures) refl (ap (λ z. z.1) c.into_parts-target.ensures);
}
