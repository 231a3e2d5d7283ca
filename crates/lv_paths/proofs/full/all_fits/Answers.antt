use Rattle.std.proofs.Common.{List, ◌++◌, map, sym, subst, ap, ◌∙◌}
use Rattle.lv_flat.specs.declared.expr.FlatExpr.{FlatExpr}
use Rattle.lv_flat.specs.Signals.{declared_all}
use Rattle.lv_extents.proofs.Lists.{flat-more, grow-none}
use Rattle.lv_paths.specs.Fits.{common_width, AreFixedLabels, fit_of, fits_of}
use Rattle.lv_paths.proofs.Labels.{fixed-arm-at}
use Rattle.lv_paths.proofs.full.all_fits.Goals as goal

pub add_fits-requires-clause-labels : goal.add_fits-requires-clause-labels
add_fits-requires-clause-labels c =
    let S = declared_all c.args.signals.now in
    subst (λ (z : List FlatExpr). AreFixedLabels S c.args.c.width z) (sym c.as_slice.ensures)
    (fixed-arm-at S c.args.arms.now c.loop-arm.arm-index c.arm-item.result c.args.c.width c.loop-arm-test.true c.arm-item.is c.requires.labels)

pub loop-arm-preserved : goal.loop-arm-preserved
loop-arm-preserved c =
    let S = declared_all c.args.signals.now in
    grow-none (fits_of S c.args.wild (common_width c.args.c) c.arm-item.result)
    (c.in_ok-add_fits.ensures ∙ ap (λ (z : List FlatExpr). c.loop-arm.fits ++ map (fit_of S c.args.wild (common_width c.args.c)) z) c.as_slice.ensures) c.loop-arm.invariant
    (flat-more (fits_of S c.args.wild (common_width c.args.c)) c.args.arms.now c.loop-arm.arm-index c.arm-item.result c.loop-arm-test.true c.arm-item.is)
