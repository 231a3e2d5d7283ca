-- Trees without places, by their form.
use Rattle.std.proofs.Common.{◌≡◌, Bool, List, map}
use Rattle.lv_bits.specs.declared.op.Op.{Op}
use Rattle.lv_ast.specs.declared.expr.Literal.{Literal}
use Rattle.lv_ast.specs.declared.expr.Path.{Path}
use Rattle.lv_ast.specs.declared.expr.Expr.{Expr}
use Rattle.lv_ast.specs.declared.expr.Expr.TheVariants as e
use Rattle.lv_ast.specs.declared.expr.Select.{Select}
use Rattle.lv_ast.specs.declared.expr.Select.TheVariants as s
use Rattle.lv_ast.proofs.ExprFolds as fold
use Rattle.lv_print.specs.Unplaced.{literal, path, expr, select, expr_step, select_step}

pub unplaced-Lit : (l : Literal) → expr (e.Lit l) ≡ e.Lit (literal l)
unfolding expr select
unplaced-Lit l = fold.fold_expr-Lit Expr Select expr_step select_step l

pub unplaced-Name : (p : Path) (ss : List Select) → expr (e.Name p ss) ≡ e.Name (path p) (map select ss)
unfolding expr select
unplaced-Name p ss = fold.fold_expr-Name Expr Select expr_step select_step p ss

pub unplaced-Un : (op : Op) (a : Expr) → expr (e.Un op a) ≡ e.Un op (expr a)
unfolding expr select
unplaced-Un op a = fold.fold_expr-Un Expr Select expr_step select_step op a

pub unplaced-Bin : (op : Op) (a b : Expr) → expr (e.Bin op a b) ≡ e.Bin op (expr a) (expr b)
unfolding expr select
unplaced-Bin op a b = fold.fold_expr-Bin Expr Select expr_step select_step op a b

pub unplaced-Div : (a b : Expr) → expr (e.Div a b) ≡ e.Div (expr a) (expr b)
unfolding expr select
unplaced-Div a b = fold.fold_expr-Div Expr Select expr_step select_step a b

pub unplaced-Rem : (a b : Expr) → expr (e.Rem a b) ≡ e.Rem (expr a) (expr b)
unfolding expr select
unplaced-Rem a b = fold.fold_expr-Rem Expr Select expr_step select_step a b

pub unplaced-Cond : (c a b : Expr) → expr (e.Cond c a b) ≡ e.Cond (expr c) (expr a) (expr b)
unfolding expr select
unplaced-Cond c a b = fold.fold_expr-Cond Expr Select expr_step select_step c a b

pub unplaced-Cat : (es : List Expr) → expr (e.Cat es) ≡ e.Cat (map expr es)
unfolding expr select
unplaced-Cat es = fold.fold_expr-Cat Expr Select expr_step select_step es

pub unplaced-Rep : (n : Expr) (es : List Expr) → expr (e.Rep n es) ≡ e.Rep (expr n) (map expr es)
unfolding expr select
unplaced-Rep n es = fold.fold_expr-Rep Expr Select expr_step select_step n es

pub unplaced-Cast : (signed : Bool) (a : Expr) → expr (e.Cast signed a) ≡ e.Cast signed (expr a)
unfolding expr select
unplaced-Cast signed a = fold.fold_expr-Cast Expr Select expr_step select_step signed a

pub unplaced-Bit : (a : Expr) → select (s.Bit a) ≡ s.Bit (expr a)
unfolding expr select
unplaced-Bit a = fold.fold_select-Bit Expr Select expr_step select_step a

pub unplaced-Part : (a b : Expr) → select (s.Part a b) ≡ s.Part (expr a) (expr b)
unfolding expr select
unplaced-Part a b = fold.fold_select-Part Expr Select expr_step select_step a b

pub unplaced-Up : (a b : Expr) → select (s.Up a b) ≡ s.Up (expr a) (expr b)
unfolding expr select
unplaced-Up a b = fold.fold_select-Up Expr Select expr_step select_step a b

pub unplaced-Down : (a b : Expr) → select (s.Down a b) ≡ s.Down (expr a) (expr b)
unfolding expr select
unplaced-Down a b = fold.fold_select-Down Expr Select expr_step select_step a b
