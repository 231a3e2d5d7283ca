use Rattle.lv_source.specs.Effect.{fits_label}
use Rattle.lv_flat.specs.Signals.{declared_all}
use Rattle.lv_flat.specs.Executing.{label_of}
use Rattle.lv_lower_blocks.specs.Cased.{common_width}
use Rattle.lv_lower_blocks.proofs.Casing.{fits-either, fits-same, any-more}
use Rattle.lv_lower_blocks.proofs.cases.fits_one.Goals as goal

pub loop-label-preserved : goal.loop-label-preserved
loop-label-preserved c =
    let S = declared_all c.args.signals.now in
    fits-same (fits-either c.loop-label.invariant c.in_ok-r.ensures c.in_ok-any.ensures) (λ x v.
    any-more (fits_label v c.args.wild (common_width c.args.c.now) x) (label_of S) c.args.labels.now c.loop-label.label-index c.label-item.result c.loop-label-test.true c.label-item.is)
