use Rattle.std.proofs.Common.{ℕ, ◌-◌, ◌<◌, Bool, List, map, length, sym, ◌∙◌, ap, arith}
use Rattle.std.specs.Prelude.{flat_map}
use Rattle.lv_source.specs.Effect.{Width, common_of}
use Rattle.lv_flat.specs.declared.expr.FlatExpr.{FlatExpr}
use Rattle.lv_flat.specs.declared.stmt.FlatArm.{FlatArm}
use Rattle.lv_flat.specs.Signals.{declared_all}
use Rattle.lv_flat.specs.Judged.{reading}
use Rattle.lv_flat.specs.Executing.{label_of}
use Rattle.lv_lower_exprs.proofs.Parts.{good-width}
use Rattle.lv_paths.specs.Fits.{common_width, common_more, labels_of}
use Rattle.lv_paths.proofs.Labels.{none-behind, common-arm-step}
use Rattle.std.proofs.Common.{◌≡◌, ◌&&◌, true, subst}
use Rattle.std.specs.List.{list_all}
use Rattle.lv_source.proofs.Tests.{and-left}
use Rattle.lv_flat.specs.Judged.{is_good}
use Rattle.lv_flat.specs.Good.{good_stmt}
use Rattle.lv_extents.proofs.Aims.{good-all-at}
use Rattle.lv_paths.proofs.full.common_case.Goals as goal

pub common_labels-c-requires-clause-good : goal.common_labels-c-requires-clause-good
common_labels-c-requires-clause-good c =
    let S = declared_all c.args.signals.now in
    let i = c.loop-i.i - 1 in
    let lt : i < length c.args.arms.now = omega (arith, c.loop-i.invariant.inside, c.loop-i-test.true) in
    let g = good-all-at (λ (a : FlatArm). list_all (is_good S) a.labels && good_stmt S a.body) c.args.arms.now i c.index-arms-i.result lt c.index-arms-i.is c.requires.labels in
    subst (λ (z : List FlatExpr). list_all (is_good S) z ≡ true) (ap (λ (z : FlatArm). z.labels) c.index-arms-i.is ∙ sym c.as_slice.ensures) (and-left (list_all (is_good S) c.index-arms-i.result.labels) (good_stmt S c.index-arms-i.result.body) g)

pub loop-i-init : goal.loop-i-init
loop-i-init c =
    let S = declared_all c.args.signals.now in
    let w = ap (λ (p : ℕ × Bool). p.0) c.own-of.ensures in
    record {
      inside = omega arith;
      most = omega (arith, w, (good-width S c.args.x.now c.requires.good).1);
      is = ap (λ (p : ℕ × Bool). let r : Width = record { width = p.0; signed = p.1 } in r) c.own-of.ensures ∙
          sym (ap (λ (z : List FlatArm). common_of (reading S c.args.x.now) (flat_map (labels_of S) z)) (none-behind c.args.arms.now (length c.args.arms.now) (omega arith)));
    }

pub loop-i-preserved : goal.loop-i-preserved
loop-i-preserved c =
    let S = declared_all c.args.signals.now in
    let i = c.loop-i.i - 1 in
    let lt : i < length c.args.arms.now = omega (arith, c.loop-i.invariant.inside, c.loop-i-test.true) in
    record {
      inside = omega (arith, c.loop-i.invariant.inside);
      most = c.common_labels-c.ensures.most;
      is = common-arm-step S (reading S c.args.x.now) c.args.arms.now i c.loop-i.i c.index-arms-i.result (common_width c.loop-i.c)
          (common_width c.common_labels-c.result) lt c.index-arms-i.is (omega (arith, c.loop-i-test.true))
          c.loop-i.invariant.is (c.common_labels-c.ensures.is ∙ ap (λ (z : List FlatExpr). common_more (map (label_of S) z) (common_width c.loop-i.c)) (c.as_slice.ensures ∙
          sym (ap (λ (z : FlatArm). z.labels) c.index-arms-i.is)));
    }
