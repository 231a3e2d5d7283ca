-- What is good of the parts of a good statement and of a good target.
use Rattle.std.proofs.Common.{◌≡◌, ℕ, Bool, true, ◌&&◌, List, map, refl, Some, None}
use Rattle.std.specs.List.{list_all}
use Rattle.lv_source.specs.Values.{nowhere}
use Rattle.lv_source.specs.Effect.{places, bits_in}
use Rattle.lv_source.specs.NodeRules.{is_width}
use Rattle.lv_source.specs.Parts.{is_declared_sort}
use Rattle.lv_flat.specs.declared.expr.FlatExpr.{FlatExpr}
use Rattle.lv_flat.specs.declared.expr.FlatSelect.{FlatSelect}
use Rattle.lv_flat.specs.declared.stmt.FlatName.{FlatName}
use Rattle.lv_flat.specs.declared.stmt.FlatTarget.{FlatTarget}
use Rattle.lv_flat.specs.declared.stmt.FlatTarget.TheVariants as t
use Rattle.lv_flat.specs.declared.stmt.FlatArm.{FlatArm}
use Rattle.lv_flat.specs.declared.stmt.FlatStmt.{FlatStmt}
use Rattle.lv_flat.specs.declared.stmt.FlatStmt.TheVariants as b
use Rattle.lv_flat.specs.Signals.{Signals, signal_at}
use Rattle.lv_flat.specs.Judged.{judge_select, good_selects, is_good}
use Rattle.lv_flat.specs.Executing.{pieces}
use Rattle.lv_flat.specs.Good.{good_step, good_arm, good_stmt, good_target, good_target_step, are_targets}
use Rattle.lv_flat.proofs.StmtFolds as fold

module _ (S : Signals) where
  pub good-Block : (body : List FlatStmt) → good_stmt S (b.Block body) ≡ list_all (λ (x : Bool). x) (map (good_stmt S) body)
  unfolding good_stmt
  good-Block body = fold.fold_stmt-Block Bool Bool (good_step S) (good_arm S) body

  pub good-If : (c : FlatExpr) (s : FlatStmt) → good_stmt S (b.If c s None) ≡ (is_good S c && (good_stmt S s && true))
  unfolding good_stmt
  good-If c s = fold.fold_stmt-If Bool Bool (good_step S) (good_arm S) c s

  pub good-If_else : (c : FlatExpr) (s t : FlatStmt) → good_stmt S (b.If c s (Some t)) ≡ (is_good S c && (good_stmt S s && good_stmt S t))
  unfolding good_stmt
  good-If_else c s t = fold.fold_stmt-If_else Bool Bool (good_step S) (good_arm S) c s t

  pub good-Case : (wild : Bool) (x : FlatExpr) (arms : List FlatArm) →
      good_stmt S (b.Case wild x arms) ≡ (is_good S x && list_all (λ (x : Bool). x)
      (map (λ (a : FlatArm). list_all (is_good S) a.labels && good_stmt S a.body) arms))
  unfolding good_stmt
  good-Case wild x arms = fold.fold_stmt-Case Bool Bool (good_step S) (good_arm S) wild x arms

  pub good-Now : (target : FlatTarget) (x : FlatExpr) (place : ℕ) → good_stmt S (b.Now target x place) ≡ (good_target S target && is_good S x)
  unfolding good_stmt
  good-Now target x place = refl

  pub good-Later : (target : FlatTarget) (x : FlatExpr) (place : ℕ) → good_stmt S (b.Later target x place) ≡ (good_target S target && is_good S x)
  unfolding good_stmt
  good-Later target x place = refl

  pub good-target : (target : FlatTarget) → good_target S target ≡ (is_width (bits_in (places nowhere (pieces S target))) && are_targets S target)
  unfolding good_target
  good-target target = refl

  pub targets-Signal : (name : FlatName) (ss : List FlatSelect) →
      are_targets S (t.Signal name ss) ≡ (is_declared_sort (signal_at S name.signal).sort && good_selects (signal_at S name.signal) (map (judge_select S) ss))
  unfolding are_targets
  targets-Signal name ss = refl

  pub targets-Cat : (ts : List FlatTarget) → are_targets S (t.Cat ts) ≡ list_all (λ (x : Bool). x) (map (are_targets S) ts)
  unfolding are_targets
  targets-Cat ts = fold.fold_target-Cat Bool (good_target_step S) ts
