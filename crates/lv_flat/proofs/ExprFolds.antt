-- The fold of an expression by the form of the tree, as code matches it.
use Rattle.std.specs.Prelude.{◌≡◌, ℕ, Bool, List, ◌∷◌, map, refl}
use Rattle.std.proofs.Common.{ap, sym, ◌∙◌}
use Rattle.lv_bits.specs.declared.op.Op.{Op}
use Rattle.lv_ast.specs.declared.expr.Literal.{Literal}
use Rattle.lv_const.specs.declared.constant.Const.{Const}
use Rattle.lv_flat.specs.declared.expr.FlatExpr.{FlatExpr, Row_of-FlatExpr, end_of-FlatExpr, more_of-FlatExpr, Row_of-FlatSelect, end_of-FlatSelect, more_of-FlatSelect, items-the_row-FlatExpr, items_hidden-the_row-FlatExpr-2, items-the_row-FlatSelect, items_hidden-the_row-FlatSelect-0, roll-FlatExpr, out-FlatExpr, map-FlatExpr, roll-out-FlatExpr}
use Rattle.lv_flat.specs.declared.expr.FlatExpr.TheVariants as e
use Rattle.lv_flat.specs.declared.expr.FlatExpr.TheVariants.{rolls-Lit, rolls-Const, rolls-Signal, rolls-Un, rolls-Bin, rolls-Div, rolls-Rem, rolls-Cond, rolls-Cat, rolls-Rep, rolls-Cast}
use Rattle.lv_flat.specs.declared.expr.FlatExpr.TheBlock.{shape-the_row-FlatSelect-0, hidden-the_row-FlatSelect-0, shown-the_row-FlatSelect-0, shape-the_row-FlatExpr-1, hidden-the_row-FlatExpr-1, hidden-the_row-FlatExpr-2}
use Rattle.lv_flat.specs.declared.expr.FlatSelect.{FlatSelect}
use Rattle.lv_flat.specs.declared.expr.FlatSelect.TheVariants as s
use Rattle.lv_flat.specs.declared.expr.FlatExpr.TheOpen.{FlatExpr-F, FlatSelect-F}
use Rattle.lv_flat.specs.Trees.{fold_expr, fold_exprs, fold_select, fold_selects}

module _ (M C : Type 0) (f : FlatExpr-F M C → M) (g : FlatSelect-F M C → C) where
  fold-items : {n : _} (r : Row_of-FlatExpr n) → fold_exprs M C f g r ≡ map (fold_expr M C f g) (items-the_row-FlatExpr n r)
  fold-items end_of-FlatExpr = refl
  fold-items (more_of-FlatExpr x xs) = ap (λ ys. fold_expr M C f g x ∷ ys) (fold-items xs)

  select-items : {n : _} (r : Row_of-FlatSelect n) → fold_selects M C f g r ≡ map (fold_select M C f g) (items-the_row-FlatSelect n r)
  select-items end_of-FlatSelect = refl
  select-items (more_of-FlatSelect x xs) = ap (λ ys. fold_select M C f g x ∷ ys) (select-items xs)

  exprs : (es : List FlatExpr) → fold_exprs M C f g (hidden-the_row-FlatExpr-2 es) ≡ map (fold_expr M C f g) es
  exprs es = fold-items (hidden-the_row-FlatExpr-2 es) ∙ ap (λ ys. map (fold_expr M C f g) ys) (items_hidden-the_row-FlatExpr-2 es)

  selects : (ss : List FlatSelect) → fold_selects M C f g (hidden-the_row-FlatSelect-0 ss) ≡ map (fold_select M C f g) ss
  selects ss = select-items (hidden-the_row-FlatSelect-0 ss) ∙ ap (λ ys. map (fold_select M C f g) ys) (items_hidden-the_row-FlatSelect-0 ss)

  pub fold_expr-roll : (x : FlatExpr-F FlatExpr FlatSelect) →
      fold_expr M C f g (roll-FlatExpr x) ≡ f (map-FlatExpr FlatExpr FlatSelect M C (fold_expr M C f g) (fold_select M C f g) x)
  unfolding roll-FlatExpr shape-the_row-FlatSelect-0 hidden-the_row-FlatSelect-0 shown-the_row-FlatSelect-0 shape-the_row-FlatExpr-1
      hidden-the_row-FlatExpr-1 denote.Hole.Carrier.hidden denote.Hole.Carrier.roll
  fold_expr-roll (FlatExpr-F.Lit l) = refl
  fold_expr-roll (FlatExpr-F.Const c ss) = ap (λ ys. f (FlatExpr-F.Const c ys)) (selects ss)
  fold_expr-roll (FlatExpr-F.Signal k ss) = ap (λ ys. f (FlatExpr-F.Signal k ys)) (selects ss)
  fold_expr-roll (FlatExpr-F.Un op a) = refl
  fold_expr-roll (FlatExpr-F.Bin op a b) = refl
  fold_expr-roll (FlatExpr-F.Div a b) = refl
  fold_expr-roll (FlatExpr-F.Rem a b) = refl
  fold_expr-roll (FlatExpr-F.Cond c a b) = refl
  fold_expr-roll (FlatExpr-F.Cat es) = ap (λ ys. f (FlatExpr-F.Cat ys)) (exprs es)
  fold_expr-roll (FlatExpr-F.Rep n es) = ap (λ ys. f (FlatExpr-F.Rep n ys)) (exprs es)
  fold_expr-roll (FlatExpr-F.Cast signed a) = refl

  pub fold_expr-out : (x : FlatExpr) → fold_expr M C f g x ≡ f (map-FlatExpr FlatExpr FlatSelect M C (fold_expr M C f g) (fold_select M C f g) (out-FlatExpr x))
  fold_expr-out x = ap (fold_expr M C f g) (sym (roll-out-FlatExpr x)) ∙ fold_expr-roll (out-FlatExpr x)

  pub fold_expr-Lit : (l : Literal) → fold_expr M C f g (e.Lit l) ≡ f (FlatExpr-F.Lit l)
  fold_expr-Lit l = ap (fold_expr M C f g) (sym (rolls-Lit l)) ∙ fold_expr-roll (FlatExpr-F.Lit l)

  pub fold_expr-Const : (c : Const) (ss : List FlatSelect) → fold_expr M C f g (e.Const c ss) ≡ f (FlatExpr-F.Const c (map (fold_select M C f g) ss))
  fold_expr-Const c ss = ap (fold_expr M C f g) (sym (rolls-Const c ss)) ∙ fold_expr-roll (FlatExpr-F.Const c ss)

  pub fold_expr-Signal : (k : ℕ) (ss : List FlatSelect) → fold_expr M C f g (e.Signal k ss) ≡ f (FlatExpr-F.Signal k (map (fold_select M C f g) ss))
  fold_expr-Signal k ss = ap (fold_expr M C f g) (sym (rolls-Signal k ss)) ∙ fold_expr-roll (FlatExpr-F.Signal k ss)

  pub fold_expr-Un : (op : Op) (a : FlatExpr) → fold_expr M C f g (e.Un op a) ≡ f (FlatExpr-F.Un op (fold_expr M C f g a))
  fold_expr-Un op a = ap (fold_expr M C f g) (sym (rolls-Un op a)) ∙ fold_expr-roll (FlatExpr-F.Un op a)

  pub fold_expr-Bin : (op : Op) (a b : FlatExpr) → fold_expr M C f g (e.Bin op a b) ≡ f (FlatExpr-F.Bin op (fold_expr M C f g a) (fold_expr M C f g b))
  fold_expr-Bin op a b = ap (fold_expr M C f g) (sym (rolls-Bin op a b)) ∙ fold_expr-roll (FlatExpr-F.Bin op a b)

  pub fold_expr-Div : (a b : FlatExpr) → fold_expr M C f g (e.Div a b) ≡ f (FlatExpr-F.Div (fold_expr M C f g a) (fold_expr M C f g b))
  fold_expr-Div a b = ap (fold_expr M C f g) (sym (rolls-Div a b)) ∙ fold_expr-roll (FlatExpr-F.Div a b)

  pub fold_expr-Rem : (a b : FlatExpr) → fold_expr M C f g (e.Rem a b) ≡ f (FlatExpr-F.Rem (fold_expr M C f g a) (fold_expr M C f g b))
  fold_expr-Rem a b = ap (fold_expr M C f g) (sym (rolls-Rem a b)) ∙ fold_expr-roll (FlatExpr-F.Rem a b)

  pub fold_expr-Cond : (c a b : FlatExpr) →
      fold_expr M C f g (e.Cond c a b) ≡ f (FlatExpr-F.Cond (fold_expr M C f g c) (fold_expr M C f g a) (fold_expr M C f g b))
  fold_expr-Cond c a b = ap (fold_expr M C f g) (sym (rolls-Cond c a b)) ∙ fold_expr-roll (FlatExpr-F.Cond c a b)

  pub fold_expr-Cat : (es : List FlatExpr) → fold_expr M C f g (e.Cat es) ≡ f (FlatExpr-F.Cat (map (fold_expr M C f g) es))
  fold_expr-Cat es = ap (fold_expr M C f g) (sym (rolls-Cat es)) ∙ fold_expr-roll (FlatExpr-F.Cat es)

  pub fold_expr-Rep : (n : ℕ) (es : List FlatExpr) → fold_expr M C f g (e.Rep n es) ≡ f (FlatExpr-F.Rep n (map (fold_expr M C f g) es))
  fold_expr-Rep n es = ap (fold_expr M C f g) (sym (rolls-Rep n es)) ∙ fold_expr-roll (FlatExpr-F.Rep n es)

  pub fold_expr-Cast : (signed : Bool) (a : FlatExpr) → fold_expr M C f g (e.Cast signed a) ≡ f (FlatExpr-F.Cast signed (fold_expr M C f g a))
  fold_expr-Cast signed a = ap (fold_expr M C f g) (sym (rolls-Cast signed a)) ∙ fold_expr-roll (FlatExpr-F.Cast signed a)

  pub fold_select-Bit : (a : FlatExpr) → fold_select M C f g (s.Bit a) ≡ g (FlatSelect-F.Bit (fold_expr M C f g a))
  unfolding shape-the_row-FlatExpr-1 hidden-the_row-FlatExpr-1 denote.Hole.Carrier.hidden
  fold_select-Bit a = refl

  pub fold_select-Part : (left right : ℕ) → fold_select M C f g (s.Part left right) ≡ g (FlatSelect-F.Part left right)
  unfolding shape-the_row-FlatExpr-1 hidden-the_row-FlatExpr-1 denote.Hole.Carrier.hidden
  fold_select-Part left right = refl

  pub fold_select-Up : (a : FlatExpr) (width : ℕ) → fold_select M C f g (s.Up a width) ≡ g (FlatSelect-F.Up (fold_expr M C f g a) width)
  unfolding shape-the_row-FlatExpr-1 hidden-the_row-FlatExpr-1 denote.Hole.Carrier.hidden
  fold_select-Up a width = refl

  pub fold_select-Down : (a : FlatExpr) (width : ℕ) → fold_select M C f g (s.Down a width) ≡ g (FlatSelect-F.Down (fold_expr M C f g a) width)
  unfolding shape-the_row-FlatExpr-1 hidden-the_row-FlatExpr-1 denote.Hole.Carrier.hidden
  fold_select-Down a width = refl
