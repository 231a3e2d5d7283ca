-- The folds of a target and of a statement by the form of the tree, as code builds and matches it.
use Rattle.std.specs.Prelude.{◌≡◌, ℕ, Bool, List, ◌∷◌, map, refl, Option, Some, None}
use Rattle.std.proofs.Common.{ap, ◌∙◌}
use Rattle.lv_ast.specs.declared.stmt.Target.{Target, Row_of-Target, end_of-Target, more_of-Target, items-the_row-Target, items_hidden-the_row-Target-0}
use Rattle.lv_ast.specs.declared.stmt.Target.TheBlock.{hidden-the_row-Target-0}
use Rattle.lv_ast.specs.declared.stmt.Target.TheVariants as t
use Rattle.lv_ast.specs.declared.stmt.Target.TheOpen.{Target-F}
use Rattle.lv_ast.specs.declared.stmt.Arm.{Arm}
use Rattle.lv_ast.specs.declared.stmt.Stmt.{Stmt, Row_of-Stmt, end_of-Stmt, more_of-Stmt, items-the_row-Stmt, items_hidden-the_row-Stmt-0, Row_of-Arm, end_of-Arm, more_of-Arm, items-the_row-Arm, items_hidden-the_row-Arm-2}
use Rattle.lv_ast.specs.declared.stmt.Stmt.TheBlock.{shape-the_row-Stmt-0, hidden-the_row-Stmt-0, shown-the_row-Stmt-0, shape-the_row-Stmt-1, hidden-the_row-Stmt-1, hidden-the_row-Arm-2}
use Rattle.lv_ast.specs.declared.stmt.Stmt.TheVariants as b
use Rattle.lv_ast.specs.declared.stmt.Stmt.TheOpen.{Stmt-F, Arm-F}
use Rattle.lv_ast.specs.declared.expr.Expr.{Expr}
use Rattle.lv_ast.specs.declared.expr.Path.{Path}
use Rattle.lv_ast.specs.declared.expr.Select.{Select}
use Rattle.lv_ast.specs.declared.stmt.Ident.{Ident}
use Rattle.lv_ast.specs.Trees.{fold_target, fold_targets, fold_stmt, fold_stmts, fold_arms}

module _ (M : Type 0) (f : Target-F M → M) where
  target-items : {n : _} (r : Row_of-Target n) → fold_targets M f r ≡ map (fold_target M f) (items-the_row-Target n r)
  target-items end_of-Target = refl
  target-items (more_of-Target x xs) = ap (λ ys. fold_target M f x ∷ ys) (target-items xs)

  pub fold_target-Name : (path : Path) (ss : List Select) → fold_target M f (t.Name path ss) ≡ f (Target-F.Name path ss)
  fold_target-Name path ss = refl

  pub fold_target-Cat : (ts : List Target) → fold_target M f (t.Cat ts) ≡ f (Target-F.Cat (map (fold_target M f) ts))
  fold_target-Cat ts = ap (λ ys. f (Target-F.Cat ys)) (target-items (hidden-the_row-Target-0 ts) ∙ ap (λ ys. map (fold_target M f) ys) (items_hidden-the_row-Target-0 ts))

module _ (M A : Type 0) (f : Stmt-F M A → M) (g : Arm-F M A → A) where
  abbrev pub fold_arm : Arm → A
  fold_arm a = g (record { labels = a.labels; body = fold_stmt M A f g a.body })

  stmt-items : {n : _} (r : Row_of-Stmt n) → fold_stmts M A f g r ≡ map (fold_stmt M A f g) (items-the_row-Stmt n r)
  stmt-items end_of-Stmt = refl
  stmt-items (more_of-Stmt x xs) = ap (λ ys. fold_stmt M A f g x ∷ ys) (stmt-items xs)

  arm-items : {n : _} (r : Row_of-Arm n) → fold_arms M A f g r ≡ map fold_arm (items-the_row-Arm n r)
  arm-items end_of-Arm = refl
  arm-items (more_of-Arm labels body xs) = ap (λ ys. g (record { labels = labels; body = fold_stmt M A f g body }) ∷ ys) (arm-items xs)

  pub fold_stmt-Null : fold_stmt M A f g b.Null ≡ f Stmt-F.Null
  fold_stmt-Null = refl

  pub fold_stmt-Block : (name : Option Ident) (ss : List Stmt) → fold_stmt M A f g (b.Block name ss) ≡ f (Stmt-F.Block name (map (fold_stmt M A f g) ss))
  fold_stmt-Block name ss = ap (λ ys. f (Stmt-F.Block name ys)) (stmt-items (hidden-the_row-Stmt-0 ss) ∙ ap (λ ys. map (fold_stmt M A f g) ys) (items_hidden-the_row-Stmt-0 ss))

  pub fold_stmt-If : (c : Expr) (s : Stmt) → fold_stmt M A f g (b.If c s None) ≡ f (Stmt-F.If c (fold_stmt M A f g s) None)
  unfolding shape-the_row-Stmt-0 hidden-the_row-Stmt-0 shown-the_row-Stmt-0 shape-the_row-Stmt-1 hidden-the_row-Stmt-1 denote.Hole.Carrier.hidden
  fold_stmt-If c s = refl

  pub fold_stmt-If_else : (c : Expr) (s t : Stmt) → fold_stmt M A f g (b.If c s (Some t)) ≡ f (Stmt-F.If c (fold_stmt M A f g s) (Some (fold_stmt M A f g t)))
  unfolding shape-the_row-Stmt-0 hidden-the_row-Stmt-0 shown-the_row-Stmt-0 shape-the_row-Stmt-1 hidden-the_row-Stmt-1 denote.Hole.Carrier.hidden
  fold_stmt-If_else c s t = refl

  pub fold_stmt-Case : (wild : Bool) (x : Expr) (arms : List Arm) → fold_stmt M A f g (b.Case wild x arms) ≡ f (Stmt-F.Case wild x (map fold_arm arms))
  fold_stmt-Case wild x arms = ap (λ ys. f (Stmt-F.Case wild x ys)) (arm-items (hidden-the_row-Arm-2 arms) ∙ ap (λ ys. map fold_arm ys) (items_hidden-the_row-Arm-2 arms))

  pub fold_stmt-Loop : (index : Ident) (start test : Expr) (again : Ident) (next : Expr) (s : Stmt) →
      fold_stmt M A f g (b.Loop index start test again next s) ≡ f (Stmt-F.Loop index start test again next (fold_stmt M A f g s))
  unfolding shape-the_row-Stmt-0 hidden-the_row-Stmt-0 shown-the_row-Stmt-0 shape-the_row-Stmt-1 hidden-the_row-Stmt-1 denote.Hole.Carrier.hidden
  fold_stmt-Loop index start test again next s = refl

  pub fold_stmt-Now : (target : Target) (x : Expr) (place : ℕ) → fold_stmt M A f g (b.Now target x place) ≡ f (Stmt-F.Now target x place)
  fold_stmt-Now target x place = refl

  pub fold_stmt-Later : (target : Target) (x : Expr) (place : ℕ) → fold_stmt M A f g (b.Later target x place) ≡ f (Stmt-F.Later target x place)
  fold_stmt-Later target x place = refl
