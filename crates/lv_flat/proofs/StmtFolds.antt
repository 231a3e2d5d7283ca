-- The folds of a target and of a statement by the form of the tree, as code matches it.
use Rattle.std.specs.Prelude.{◌≡◌, ℕ, Bool, List, ◌∷◌, map, refl, Some, None}
use Rattle.std.proofs.Common.{ap, ◌∙◌}
use Rattle.lv_flat.specs.declared.stmt.FlatTarget.{FlatTarget, Row_of-FlatTarget, end_of-FlatTarget, more_of-FlatTarget, items-the_row-FlatTarget, items_hidden-the_row-FlatTarget-0}
use Rattle.lv_flat.specs.declared.stmt.FlatTarget.TheBlock.{hidden-the_row-FlatTarget-0}
use Rattle.lv_flat.specs.declared.stmt.FlatTarget.TheVariants as t
use Rattle.lv_flat.specs.declared.stmt.FlatTarget.TheOpen.{FlatTarget-F}
use Rattle.lv_flat.specs.declared.stmt.FlatArm.{FlatArm}
use Rattle.lv_flat.specs.declared.stmt.FlatName.{FlatName}
use Rattle.lv_flat.specs.declared.expr.FlatSelect.{FlatSelect}
use Rattle.lv_flat.specs.declared.stmt.FlatStmt.{FlatStmt, Row_of-FlatStmt, end_of-FlatStmt, more_of-FlatStmt, items-the_row-FlatStmt, items_hidden-the_row-FlatStmt-0, Row_of-FlatArm, end_of-FlatArm, more_of-FlatArm, items-the_row-FlatArm, items_hidden-the_row-FlatArm-2}
use Rattle.lv_flat.specs.declared.stmt.FlatStmt.TheBlock.{shape-the_row-FlatStmt-0, hidden-the_row-FlatStmt-0, shown-the_row-FlatStmt-0, shape-the_row-FlatStmt-1, hidden-the_row-FlatStmt-1, hidden-the_row-FlatArm-2}
use Rattle.lv_flat.specs.declared.stmt.FlatStmt.TheVariants as b
use Rattle.lv_flat.specs.declared.stmt.FlatStmt.TheOpen.{FlatStmt-F, FlatArm-F}
use Rattle.lv_flat.specs.declared.expr.FlatExpr.{FlatExpr}
use Rattle.lv_flat.specs.Trees.{fold_target, fold_targets, fold_stmt, fold_stmts, fold_arms}

module _ (M : Type 0) (f : FlatTarget-F M → M) where
  target-items : {n : _} (r : Row_of-FlatTarget n) → fold_targets M f r ≡ map (fold_target M f) (items-the_row-FlatTarget n r)
  target-items end_of-FlatTarget = refl
  target-items (more_of-FlatTarget x xs) = ap (λ ys. fold_target M f x ∷ ys) (target-items xs)

  pub fold_target-Signal : (name : FlatName) (ss : List FlatSelect) → fold_target M f (t.Signal name ss) ≡ f (FlatTarget-F.Signal name ss)
  fold_target-Signal name ss = refl

  pub fold_target-Cat : (ts : List FlatTarget) → fold_target M f (t.Cat ts) ≡ f (FlatTarget-F.Cat (map (fold_target M f) ts))
  fold_target-Cat ts = ap (λ ys. f (FlatTarget-F.Cat ys))
      (target-items (hidden-the_row-FlatTarget-0 ts) ∙ ap (λ ys. map (fold_target M f) ys) (items_hidden-the_row-FlatTarget-0 ts))

module _ (M A : Type 0) (f : FlatStmt-F M A → M) (g : FlatArm-F M A → A) where
  abbrev pub fold_arm : FlatArm → A
  fold_arm a = g (record { labels = a.labels; body = fold_stmt M A f g a.body })

  stmt-items : {n : _} (r : Row_of-FlatStmt n) → fold_stmts M A f g r ≡ map (fold_stmt M A f g) (items-the_row-FlatStmt n r)
  stmt-items end_of-FlatStmt = refl
  stmt-items (more_of-FlatStmt x xs) = ap (λ ys. fold_stmt M A f g x ∷ ys) (stmt-items xs)

  arm-items : {n : _} (r : Row_of-FlatArm n) → fold_arms M A f g r ≡ map fold_arm (items-the_row-FlatArm n r)
  arm-items end_of-FlatArm = refl
  arm-items (more_of-FlatArm labels body xs) = ap (λ ys. g (record { labels = labels; body = fold_stmt M A f g body }) ∷ ys) (arm-items xs)

  pub fold_stmt-Null : fold_stmt M A f g b.Null ≡ f FlatStmt-F.Null
  fold_stmt-Null = refl

  pub fold_stmt-Block : (ss : List FlatStmt) → fold_stmt M A f g (b.Block ss) ≡ f (FlatStmt-F.Block (map (fold_stmt M A f g) ss))
  fold_stmt-Block ss = ap (λ ys. f (FlatStmt-F.Block ys))
      (stmt-items (hidden-the_row-FlatStmt-0 ss) ∙ ap (λ ys. map (fold_stmt M A f g) ys) (items_hidden-the_row-FlatStmt-0 ss))

  pub fold_stmt-If : (c : FlatExpr) (s : FlatStmt) → fold_stmt M A f g (b.If c s None) ≡ f (FlatStmt-F.If c (fold_stmt M A f g s) None)
  unfolding shape-the_row-FlatStmt-0 hidden-the_row-FlatStmt-0 shown-the_row-FlatStmt-0 shape-the_row-FlatStmt-1 hidden-the_row-FlatStmt-1
      denote.Hole.Carrier.hidden
  fold_stmt-If c s = refl

  pub fold_stmt-If_else : (c : FlatExpr) (s t : FlatStmt) →
      fold_stmt M A f g (b.If c s (Some t)) ≡ f (FlatStmt-F.If c (fold_stmt M A f g s) (Some (fold_stmt M A f g t)))
  unfolding shape-the_row-FlatStmt-0 hidden-the_row-FlatStmt-0 shown-the_row-FlatStmt-0 shape-the_row-FlatStmt-1 hidden-the_row-FlatStmt-1
      denote.Hole.Carrier.hidden
  fold_stmt-If_else c s t = refl

  pub fold_stmt-Case : (wild : Bool) (x : FlatExpr) (arms : List FlatArm) →
      fold_stmt M A f g (b.Case wild x arms) ≡ f (FlatStmt-F.Case wild x (map fold_arm arms))
  fold_stmt-Case wild x arms = ap (λ ys. f (FlatStmt-F.Case wild x ys))
      (arm-items (hidden-the_row-FlatArm-2 arms) ∙ ap (λ ys. map fold_arm ys) (items_hidden-the_row-FlatArm-2 arms))

  pub fold_stmt-Now : (target : FlatTarget) (x : FlatExpr) (place : ℕ) → fold_stmt M A f g (b.Now target x place) ≡ f (FlatStmt-F.Now target x place)
  fold_stmt-Now target x place = refl

  pub fold_stmt-Later : (target : FlatTarget) (x : FlatExpr) (place : ℕ) → fold_stmt M A f g (b.Later target x place) ≡ f (FlatStmt-F.Later target x place)
  fold_stmt-Later target x place = refl
