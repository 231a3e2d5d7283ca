-- One fold for each kind of tree, which computes on trees that are written out.
use Rattle.std.specs.Prelude.{List, [], ◌∷◌, Option, Some, None}
use Rattle.lv_flat.specs.declared.expr.FlatExpr.{FlatExpr, Row_of-FlatExpr, end_of-FlatExpr, more_of-FlatExpr, Row_of-FlatSelect, end_of-FlatSelect, more_of-FlatSelect}
use Rattle.lv_flat.specs.declared.expr.FlatExpr.TheVariants as e
use Rattle.lv_flat.specs.declared.expr.FlatExpr.TheOpen.{FlatExpr-F, FlatSelect-F}
use Rattle.lv_flat.specs.declared.expr.FlatSelect.{FlatSelect}
use Rattle.lv_flat.specs.declared.expr.FlatSelect.TheVariants as s
use Rattle.lv_flat.specs.declared.stmt.FlatTarget.{FlatTarget, Row_of-FlatTarget, end_of-FlatTarget, more_of-FlatTarget}
use Rattle.lv_flat.specs.declared.stmt.FlatTarget.TheVariants as t
use Rattle.lv_flat.specs.declared.stmt.FlatTarget.TheOpen.{FlatTarget-F}
use Rattle.lv_flat.specs.declared.stmt.FlatStmt.{FlatStmt, Row_of-FlatStmt, end_of-FlatStmt, more_of-FlatStmt, Row_of-FlatArm, end_of-FlatArm, more_of-FlatArm, Held-FlatStmt-If-2, None', Some'}
use Rattle.lv_flat.specs.declared.stmt.FlatStmt.TheVariants as b
use Rattle.lv_flat.specs.declared.stmt.FlatStmt.TheOpen.{FlatStmt-F, FlatArm-F}

module _ (M C : Type 0) (f : FlatExpr-F M C → M) (g : FlatSelect-F M C → C) where
  abbrev mutual
    pub fold_expr : FlatExpr → M
    fold_expr (e.Lit l) = f (FlatExpr-F.Lit l)
    fold_expr (e.Const' c n ss) = f (FlatExpr-F.Const c (fold_selects ss))
    fold_expr (e.Signal' k n ss) = f (FlatExpr-F.Signal k (fold_selects ss))
    fold_expr (e.Un' op n a) = f (FlatExpr-F.Un op (fold_one a))
    fold_expr (e.Bin' op n a m b) = f (FlatExpr-F.Bin op (fold_one a) (fold_one b))
    fold_expr (e.Div' n a m b) = f (FlatExpr-F.Div (fold_one a) (fold_one b))
    fold_expr (e.Rem' n a m b) = f (FlatExpr-F.Rem (fold_one a) (fold_one b))
    fold_expr (e.Cond' n c m a k b) = f (FlatExpr-F.Cond (fold_one c) (fold_one a) (fold_one b))
    fold_expr (e.Cat' n es) = f (FlatExpr-F.Cat (fold_exprs es))
    fold_expr (e.Rep' count n es) = f (FlatExpr-F.Rep count (fold_exprs es))
    fold_expr (e.Cast' signed n a) = f (FlatExpr-F.Cast signed (fold_one a))

    pub fold_exprs : {n : _} → Row_of-FlatExpr n → List M
    fold_exprs end_of-FlatExpr = []
    fold_exprs (more_of-FlatExpr x xs) = fold_expr x ∷ fold_exprs xs

    pub fold_one : {n : _} → Row_of-FlatExpr n → M
    fold_one end_of-FlatExpr = f (FlatExpr-F.Cat [])
    fold_one (more_of-FlatExpr x xs) = fold_expr x

    pub fold_select : FlatSelect → C
    fold_select (s.Bit' n a) = g (FlatSelect-F.Bit (fold_one a))
    fold_select (s.Part left right) = g (FlatSelect-F.Part left right)
    fold_select (s.Up' n a width) = g (FlatSelect-F.Up (fold_one a) width)
    fold_select (s.Down' n a width) = g (FlatSelect-F.Down (fold_one a) width)

    pub fold_selects : {n : _} → Row_of-FlatSelect n → List C
    fold_selects end_of-FlatSelect = []
    fold_selects (more_of-FlatSelect x xs) = fold_select x ∷ fold_selects xs

module _ (M : Type 0) (f : FlatTarget-F M → M) where
  abbrev mutual
    pub fold_target : FlatTarget → M
    fold_target (t.Signal name ss) = f (FlatTarget-F.Signal name ss)
    fold_target (t.Cat' n ts) = f (FlatTarget-F.Cat (fold_targets ts))

    pub fold_targets : {n : _} → Row_of-FlatTarget n → List M
    fold_targets end_of-FlatTarget = []
    fold_targets (more_of-FlatTarget x xs) = fold_target x ∷ fold_targets xs

module _ (M A : Type 0) (f : FlatStmt-F M A → M) (g : FlatArm-F M A → A) where
  abbrev mutual
    pub fold_stmt : FlatStmt → M
    fold_stmt b.Null = f FlatStmt-F.Null
    fold_stmt (b.Block' n ss) = f (FlatStmt-F.Block (fold_stmts ss))
    fold_stmt (b.If' c n s other) = f (FlatStmt-F.If c (fold_one_stmt s) (fold_held other))
    fold_stmt (b.Case' wild x n arms) = f (FlatStmt-F.Case wild x (fold_arms arms))
    fold_stmt (b.Now target x place) = f (FlatStmt-F.Now target x place)
    fold_stmt (b.Later target x place) = f (FlatStmt-F.Later target x place)

    pub fold_stmts : {n : _} → Row_of-FlatStmt n → List M
    fold_stmts end_of-FlatStmt = []
    fold_stmts (more_of-FlatStmt x xs) = fold_stmt x ∷ fold_stmts xs

    pub fold_one_stmt : {n : _} → Row_of-FlatStmt n → M
    fold_one_stmt end_of-FlatStmt = f FlatStmt-F.Null
    fold_one_stmt (more_of-FlatStmt x xs) = fold_stmt x

    pub fold_held : Held-FlatStmt-If-2 → Option M
    fold_held None' = None
    fold_held (Some' n s) = Some (fold_one_stmt s)

    pub fold_arms : {n : _} → Row_of-FlatArm n → List A
    fold_arms end_of-FlatArm = []
    fold_arms (more_of-FlatArm labels body xs) = g (record { labels = labels; body = fold_stmt body }) ∷ fold_arms xs
