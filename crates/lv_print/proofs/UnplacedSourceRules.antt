-- Targets, statements and items without places, by their form.
use Rattle.std.proofs.Common.{◌≡◌, ℕ, Bool, List, ◌∷◌, map, Option, Some, None, refl, ap, ◌∙◌}
use Rattle.std.specs.Prelude.{option_map}
use Rattle.lv_ast.specs.declared.expr.Path.{Path}
use Rattle.lv_ast.specs.declared.expr.Select.{Select}
use Rattle.lv_ast.specs.declared.expr.Expr.{Expr}
use Rattle.lv_ast.specs.declared.stmt.Ident.{Ident}
use Rattle.lv_ast.specs.declared.stmt.Target.{Target}
use Rattle.lv_ast.specs.declared.stmt.Target.TheVariants as t
use Rattle.lv_ast.specs.declared.stmt.Arm.{Arm}
use Rattle.lv_ast.specs.declared.stmt.Stmt.{Stmt}
use Rattle.lv_ast.specs.declared.stmt.Stmt.TheVariants as b
use Rattle.lv_ast.specs.declared.item.Item.{Item, Row_of-Item, end_of-Item, more_of-Item, items-the_row-Item, items_hidden-the_row-Item-0}
use Rattle.lv_ast.specs.declared.item.Item.TheBlock.{hidden-the_row-Item-0}
use Rattle.lv_ast.specs.declared.item.Item.TheVariants as i
use Rattle.lv_ast.proofs.StmtFolds as fold
use Rattle.lv_print.specs.Unplaced.{path, expr, select}
use Rattle.lv_print.specs.UnplacedSources.{ident, target_step, target, stmt_step, arm_step, stmt, arm, item_fold, items_fold, item}

pub target-Name : (p : Path) (ss : List Select) → target (t.Name p ss) ≡ t.Name (path p) (map select ss)
unfolding target
target-Name p ss = fold.fold_target-Name Target target_step p ss

pub target-Cat : (ts : List Target) → target (t.Cat ts) ≡ t.Cat (map target ts)
unfolding target
target-Cat ts = fold.fold_target-Cat Target target_step ts

pub stmt-Null : stmt b.Null ≡ b.Null
unfolding stmt
stmt-Null = fold.fold_stmt-Null Stmt Arm stmt_step arm_step

pub stmt-Block : (label : Option Ident) (ss : List Stmt) → stmt (b.Block label ss) ≡ b.Block (option_map ident label) (map stmt ss)
unfolding stmt
stmt-Block label ss = fold.fold_stmt-Block Stmt Arm stmt_step arm_step label ss

pub stmt-If : (c : Expr) (s : Stmt) → stmt (b.If c s None) ≡ b.If (expr c) (stmt s) None
unfolding stmt
stmt-If c s = fold.fold_stmt-If Stmt Arm stmt_step arm_step c s

pub stmt-If_else : (c : Expr) (s r : Stmt) → stmt (b.If c s (Some r)) ≡ b.If (expr c) (stmt s) (Some (stmt r))
unfolding stmt
stmt-If_else c s r = fold.fold_stmt-If_else Stmt Arm stmt_step arm_step c s r

pub stmt-Case : (wild : Bool) (x : Expr) (arms : List Arm) → stmt (b.Case wild x arms) ≡ b.Case wild (expr x) (map arm arms)
unfolding stmt
stmt-Case wild x arms = fold.fold_stmt-Case Stmt Arm stmt_step arm_step wild x arms

pub stmt-Loop : (index : Ident) (start test : Expr) (again : Ident) (next : Expr) (s : Stmt) →
    stmt (b.Loop index start test again next s) ≡ b.Loop (ident index) (expr start) (expr test) (ident again) (expr next) (stmt s)
unfolding stmt
stmt-Loop index start test again next s = fold.fold_stmt-Loop Stmt Arm stmt_step arm_step index start test again next s

pub stmt-Now : (x : Target) (y : Expr) (place : ℕ) → stmt (b.Now x y place) ≡ b.Now (target x) (expr y) 0
unfolding stmt
stmt-Now x y place = fold.fold_stmt-Now Stmt Arm stmt_step arm_step x y place

pub stmt-Later : (x : Target) (y : Expr) (place : ℕ) → stmt (b.Later x y place) ≡ b.Later (target x) (expr y) 0
unfolding stmt
stmt-Later x y place = fold.fold_stmt-Later Stmt Arm stmt_step arm_step x y place

items-row : {n : _} (r : Row_of-Item n) → items_fold r ≡ map item_fold (items-the_row-Item n r)
items-row end_of-Item = refl
items-row (more_of-Item x xs) = ap (λ ys. item_fold x ∷ ys) (items-row xs)

items-hidden : (xs : List Item) → items_fold (hidden-the_row-Item-0 xs) ≡ map item_fold xs
items-hidden xs = items-row (hidden-the_row-Item-0 xs) ∙ ap (λ ys. map item_fold ys) (items_hidden-the_row-Item-0 xs)

pub item-Generate : (xs : List Item) → item (i.Generate xs) ≡ i.Generate (map item xs)
unfolding item
item-Generate xs = ap i.Generate (items-hidden xs)

pub item-Loop : (index : Ident) (start test : Expr) (again : Ident) (next : Expr) (label : Ident) (xs : List Item) →
    item (i.Loop index start test again next label xs) ≡ i.Loop (ident index) (expr start) (expr test) (ident again) (expr next) (ident label) (map item xs)
unfolding item
item-Loop index start test again next label xs = ap (i.Loop (ident index) (expr start) (expr test) (ident again) (expr next) (ident label)) (items-hidden xs)
