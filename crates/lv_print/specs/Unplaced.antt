-- Trees without their places: each place is 0. Two trees are the same but for places if these are equal.
use Rattle.lv_ast.specs.declared.expr.Literal.{Literal}
use Rattle.lv_ast.specs.declared.expr.Path.{Path}
use Rattle.lv_ast.specs.declared.expr.Select.{Select}
use Rattle.lv_ast.specs.declared.expr.Select.TheVariants as s
use Rattle.lv_ast.specs.declared.expr.Expr.{Expr}
use Rattle.lv_ast.specs.declared.expr.Expr.TheVariants as e
use Rattle.lv_ast.specs.declared.expr.Expr.TheOpen.{Expr-F, Select-F}
use Rattle.lv_ast.specs.Trees.{fold_expr, fold_select}

abbrev pub literal : Literal → Literal
literal l = record l { place = 0 }

abbrev pub path : Path → Path
path p = record p { place = 0 }

abbrev pub expr_step : Expr-F Expr Select → Expr
expr_step (Expr-F.Lit l) = e.Lit (literal l)
expr_step (Expr-F.Name p ss) = e.Name (path p) ss
expr_step (Expr-F.Un op a) = e.Un op a
expr_step (Expr-F.Bin op a b) = e.Bin op a b
expr_step (Expr-F.Div a b) = e.Div a b
expr_step (Expr-F.Rem a b) = e.Rem a b
expr_step (Expr-F.Cond c a b) = e.Cond c a b
expr_step (Expr-F.Cat es) = e.Cat es
expr_step (Expr-F.Rep n es) = e.Rep n es
expr_step (Expr-F.Cast signed a) = e.Cast signed a

abbrev pub select_step : Select-F Expr Select → Select
select_step (Select-F.Bit a) = s.Bit a
select_step (Select-F.Part a b) = s.Part a b
select_step (Select-F.Up a b) = s.Up a b
select_step (Select-F.Down a b) = s.Down a b

unfoldable pub expr : Expr → Expr
expr x = fold_expr Expr Select expr_step select_step x

unfoldable pub select : Select → Select
select x = fold_select Expr Select expr_step select_step x
