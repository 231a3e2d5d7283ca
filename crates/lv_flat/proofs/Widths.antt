-- The widths of what is good, and of signals.
use Rattle.std.proofs.Common.{◌≡◌, ℕ, ◌≤◌, arith, true, sym, ap, ◌∙◌}
use Rattle.std.proofs.lemmas.Bool.Decides.{nat_tests}
use Rattle.lv_source.specs.Names.{width_of}
use Rattle.lv_source.specs.Values.{nowhere}
use Rattle.lv_source.specs.Effect.{places, bits_in}
use Rattle.lv_source.specs.NodeRules.{is_width}
use Rattle.lv_source.proofs.Tests.{and-left, and-right}
use Rattle.lv_flat.specs.declared.signal.Signal.{Signal}
use Rattle.lv_flat.specs.declared.expr.FlatExpr.{FlatExpr, out-FlatExpr, map-FlatExpr}
use Rattle.lv_flat.specs.declared.expr.FlatExpr.TheOpen.{FlatExpr-F}
use Rattle.lv_flat.specs.declared.expr.FlatSelect.{FlatSelect}
use Rattle.lv_flat.specs.declared.stmt.FlatTarget.{FlatTarget}
use Rattle.lv_flat.specs.Signals.{Signals, declared}
use Rattle.lv_flat.specs.Judged.{Judged, JudgedSelect, judge, judge_select, judge_step, judge_choice, meaning, is_good, layer_good}
use Rattle.lv_flat.specs.Executing.{pieces}
use Rattle.lv_flat.specs.Good.{good_target, are_targets}
use Rattle.lv_flat.proofs.ExprFolds as fold

-- a width as two orders
pub width-least : (w : ℕ) → is_width w ≡ true → 1 ≤ w
width-least w h = grind (arith, nat_tests)

pub width-most : (w : ℕ) → is_width w ≡ true → w ≤ 128
width-most w h = grind (arith, nat_tests)

module _ (S : Signals) where
  abbrev pub layer_of : FlatExpr → FlatExpr-F Judged JudgedSelect
  layer_of x = map-FlatExpr FlatExpr FlatSelect Judged JudgedSelect (judge S) (judge_select S) (out-FlatExpr x)

  -- what is judged of a tree is a step from what is judged of the trees in it
  pub judge-out : (x : FlatExpr) → judge S x ≡ judge_step S (layer_of x)
  unfolding judge judge_select
  judge-out x = fold.fold_expr-out Judged JudgedSelect (judge_step S) judge_choice x

  judged_width : (j : Judged) (y : FlatExpr-F Judged JudgedSelect) → j ≡ judge_step S y → j.good ≡ true → is_width j.reading.meaning.width ≡ true
  judged_width j y e h =
      ap (λ (z : Judged). is_width z.reading.meaning.width) e ∙
      and-left (is_width (judge_step S y).reading.meaning.width) (layer_good S y) (sym (ap (λ (z : Judged). z.good) e) ∙ h)

  pub good-width : (x : FlatExpr) → is_good S x ≡ true → is_width (meaning S x).width ≡ true
  good-width x h = judged_width (judge S x) (layer_of x) (judge-out x) h

  judged_layer : (j : Judged) (y : FlatExpr-F Judged JudgedSelect) → j ≡ judge_step S y → j.good ≡ true → layer_good S y ≡ true
  judged_layer j y e h = and-right (is_width (judge_step S y).reading.meaning.width) (layer_good S y) (sym (ap (λ (z : Judged). z.good) e) ∙ h)

  -- the trees in it are good as its form wants
  pub good-layer : (x : FlatExpr) → is_good S x ≡ true → layer_good S (layer_of x) ≡ true
  good-layer x h = judged_layer (judge S x) (layer_of x) (judge-out x) h

  pub target-width : (t : FlatTarget) → good_target S t ≡ true → is_width (bits_in (places nowhere (pieces S t))) ≡ true
  unfolding good_target
  target-width t h = and-left (is_width (bits_in (places nowhere (pieces S t)))) (are_targets S t) h

  pub target-names : (t : FlatTarget) → good_target S t ≡ true → are_targets S t ≡ true
  unfolding good_target
  target-names t h = and-right (is_width (bits_in (places nowhere (pieces S t)))) (are_targets S t) h

pub declared-width : (s : Signal) → width_of (declared s) ≡ s.width
declared-width s = s.wide
