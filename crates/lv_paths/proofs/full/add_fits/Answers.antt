use Rattle.std.proofs.Common.{ℕ, [], ◌∷◌, ◌++◌, ap, ◌∙◌}
use Rattle.lv_flat.specs.Signals.{declared_all}
use Rattle.lv_extents.proofs.Lists.{grow, map-more}
use Rattle.lv_paths.specs.declared.full.Fit.{Fit}
use Rattle.lv_paths.specs.Fits.{common_width, fit_of}
use Rattle.lv_paths.proofs.Labels.{fixed-at}
use Rattle.lv_paths.proofs.full.add_fits.Goals as goal

pub constant_value-requires-clause-good : goal.constant_value-requires-clause-good
constant_value-requires-clause-good c =
    (fixed-at (declared_all c.args.signals.now) c.args.labels.now c.loop-label.label-index c.label-item.result c.args.c.width c.loop-label-test.true c.label-item.is c.requires.labels).good

pub constant_value-requires-clause-constant : goal.constant_value-requires-clause-constant
constant_value-requires-clause-constant c =
    (fixed-at (declared_all c.args.signals.now) c.args.labels.now c.loop-label.label-index c.label-item.result c.args.c.width c.loop-label-test.true c.label-item.is c.requires.labels).constant

pub constant_value-requires-clause-wide : goal.constant_value-requires-clause-wide
constant_value-requires-clause-wide c =
    (fixed-at (declared_all c.args.signals.now) c.args.labels.now c.loop-label.label-index c.label-item.result c.args.c.width c.loop-label-test.true c.label-item.is c.requires.labels).wide

pub free_bits-free-requires-clause-good : goal.free_bits-free-requires-clause-good
free_bits-free-requires-clause-good c =
    (fixed-at (declared_all c.args.signals.now) c.args.labels.now c.loop-label.label-index c.label-item.result c.args.c.width c.loop-label-test.true c.label-item.is c.requires.labels).good

pub free_bits-free-requires-clause-wide : goal.free_bits-free-requires-clause-wide
free_bits-free-requires-clause-wide c =
    (fixed-at (declared_all c.args.signals.now) c.args.labels.now c.loop-label.label-index c.label-item.result c.args.c.width c.loop-label-test.true c.label-item.is c.requires.labels).wide

pub loop-label-preserved : goal.loop-label-preserved
loop-label-preserved c =
    let S = declared_all c.args.signals.now in
    let one : Fit = fit_of S c.args.wild (common_width c.args.c) c.label-item.result in
    grow c.args.fits.now (one ∷ []) _ (c.in_ok-push.ensures.ok ∙ ap (λ (f : Fit). c.loop-label.fits ++ f ∷ [])
    (ap (λ (v : ℕ). let f : Fit = record { value = v; free = c.free_bits-free.result } in f) c.in_ok-value.ensures.is ∙ ap (λ (v : ℕ). let f : Fit = record { value = one.value; free = v } in f) c.free_bits-free.ensures))
    c.loop-label.invariant (map-more (fit_of S c.args.wild (common_width c.args.c)) c.args.labels.now c.loop-label.label-index c.label-item.result c.loop-label-test.true c.label-item.is)
