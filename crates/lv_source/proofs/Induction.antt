-- Induction over expressions: what holds of each node, given that it holds of the nodes below, holds of a fold.
use Rattle.std.proofs.Common.{[]}
use Rattle.lv_ast.specs.declared.expr.Expr.{Expr, Row_of-Expr, end_of-Expr, more_of-Expr, Row_of-Select, end_of-Select, more_of-Select}
use Rattle.lv_ast.specs.declared.expr.Expr.TheVariants as e
use Rattle.lv_ast.specs.declared.expr.Expr.TheOpen.{Expr-F, Select-F}
use Rattle.lv_ast.specs.declared.expr.Select.{Select}
use Rattle.lv_ast.specs.declared.expr.Select.TheVariants as s
use Rattle.lv_ast.specs.Trees.{fold_expr, fold_exprs, fold_one, fold_select, fold_selects}
use Rattle.lv_source.proofs.Each.{Each}

abbrev pub Below : {M C : Type 0} → (M → Type 0) → (C → Type 0) → Expr-F M C → Type 0
Below P Q (Expr-F.Lit l) = Unit {0}
Below P Q (Expr-F.Name path cs) = Each Q cs
Below P Q (Expr-F.Un op a) = P a
Below P Q (Expr-F.Bin op a b) = P a × P b
Below P Q (Expr-F.Div a b) = P a × P b
Below P Q (Expr-F.Rem a b) = P a × P b
Below P Q (Expr-F.Cond c a b) = P c × P a × P b
Below P Q (Expr-F.Cat ms) = Each P ms
Below P Q (Expr-F.Rep n ms) = P n × Each P ms
Below P Q (Expr-F.Cast signed a) = P a

abbrev pub Inside : {M C : Type 0} → (M → Type 0) → Select-F M C → Type 0
Inside P (Select-F.Bit a) = P a
Inside P (Select-F.Part a b) = P a × P b
Inside P (Select-F.Up a b) = P a × P b
Inside P (Select-F.Down a b) = P a × P b

module _ (M C : Type 0) (f : Expr-F M C → M) (g : Select-F M C → C) (P : M → Type 0) (Q : C → Type 0)
    (node : (x : Expr-F M C) → Below P Q x → P (f x)) (pick : (s : Select-F M C) → Inside P s → Q (g s)) where
  mutual
    pub of_expr : (x : Expr) → P (fold_expr M C f g x)
    of_expr (e.Lit l) = node (Expr-F.Lit l) tt
    of_expr (e.Name' path n ss) = node (Expr-F.Name path (fold_selects M C f g ss)) (of_selects ss)
    of_expr (e.Un' op n a) = node (Expr-F.Un op (fold_one M C f g a)) (of_one a)
    of_expr (e.Bin' op n a m b) = node (Expr-F.Bin op (fold_one M C f g a) (fold_one M C f g b)) (of_one a, of_one b)
    of_expr (e.Div' n a m b) = node (Expr-F.Div (fold_one M C f g a) (fold_one M C f g b)) (of_one a, of_one b)
    of_expr (e.Rem' n a m b) = node (Expr-F.Rem (fold_one M C f g a) (fold_one M C f g b)) (of_one a, of_one b)
    of_expr (e.Cond' n c m a k b) = node (Expr-F.Cond (fold_one M C f g c) (fold_one M C f g a) (fold_one M C f g b)) (of_one c, of_one a, of_one b)
    of_expr (e.Cat' n es) = node (Expr-F.Cat (fold_exprs M C f g es)) (of_exprs es)
    of_expr (e.Rep' n a m es) = node (Expr-F.Rep (fold_one M C f g a) (fold_exprs M C f g es)) (of_one a, of_exprs es)
    of_expr (e.Cast' signed n a) = node (Expr-F.Cast signed (fold_one M C f g a)) (of_one a)

    pub of_exprs : {n : _} (r : Row_of-Expr n) → Each P (fold_exprs M C f g r)
    of_exprs end_of-Expr = tt
    of_exprs (more_of-Expr x xs) = (of_expr x, of_exprs xs)

    pub of_one : {n : _} (r : Row_of-Expr n) → P (fold_one M C f g r)
    of_one end_of-Expr = node (Expr-F.Cat []) tt
    of_one (more_of-Expr x xs) = of_expr x

    pub of_select : (x : Select) → Q (fold_select M C f g x)
    of_select (s.Bit' n a) = pick (Select-F.Bit (fold_one M C f g a)) (of_one a)
    of_select (s.Part' n a m b) = pick (Select-F.Part (fold_one M C f g a) (fold_one M C f g b)) (of_one a, of_one b)
    of_select (s.Up' n a m b) = pick (Select-F.Up (fold_one M C f g a) (fold_one M C f g b)) (of_one a, of_one b)
    of_select (s.Down' n a m b) = pick (Select-F.Down (fold_one M C f g a) (fold_one M C f g b)) (of_one a, of_one b)

    pub of_selects : {n : _} (r : Row_of-Select n) → Each Q (fold_selects M C f g r)
    of_selects end_of-Select = tt
    of_selects (more_of-Select x xs) = (of_select x, of_selects xs)
