use Rattle.std.proofs.Common.{ℕ, ◌-◌, ◌<◌, Bool, length, refl, ap, arith}
use Rattle.lv_flat.specs.Signals.{declared_all}
use Rattle.lv_lower_exprs.proofs.Parts.{good-width}
use Rattle.lv_paths.specs.Fits.{common_width}
use Rattle.lv_paths.proofs.Labels.{label-good, common-step}
use Rattle.lv_paths.proofs.full.common_labels.Goals as goal

pub loop-i-preserved : goal.loop-i-preserved
loop-i-preserved c =
    let S = declared_all c.args.signals.now in
    let i = c.loop-i.i - 1 in
    let lt : i < length c.args.labels.now = omega (arith, c.loop-i.invariant.inside, c.loop-i-test.true) in
    let x = c.index-labels-i.result in
    let w = ap (λ (p : ℕ × Bool). p.0) c.own-of.ensures in
    let g = good-width S x (label-good S c.args.labels.now i x lt c.index-labels-i.is c.requires.good) in
    record {
      inside = omega (arith, c.loop-i.invariant.inside);
      most = omega (arith, c.max.ensures, w, g.1, c.loop-i.invariant.most);
      is = common-step S c.args.labels.now i c.loop-i.i x (common_width c.loop-i.c)
          (common_width c.args.rest) c.own-of.result c.max.result _ lt c.index-labels-i.is (omega (arith, c.loop-i-test.true)) c.own-of.ensures
          c.loop-i.invariant.is c.max.ensures refl;
    }
