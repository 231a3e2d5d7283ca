-- The fold of an expression by the form of the tree, as code builds and matches it.
use Rattle.std.specs.Prelude.{◌≡◌, Bool, List, ◌∷◌, map, refl}
use Rattle.std.proofs.Common.{ap, sym, ◌∙◌}
use Rattle.lv_bits.specs.declared.op.Op.{Op}
use Rattle.lv_ast.specs.declared.expr.Literal.{Literal}
use Rattle.lv_ast.specs.declared.expr.Path.{Path}
use Rattle.lv_ast.specs.declared.expr.Expr.{Expr, Row_of-Expr, end_of-Expr, more_of-Expr, Row_of-Select, end_of-Select, more_of-Select, items-the_row-Expr, items_hidden-the_row-Expr-2, items-the_row-Select, items_hidden-the_row-Select-0, roll-Expr, out-Expr, map-Expr, roll-out-Expr}
use Rattle.lv_ast.specs.declared.expr.Expr.TheVariants as e
use Rattle.lv_ast.specs.declared.expr.Expr.TheVariants.{rolls-Lit, rolls-Name, rolls-Un, rolls-Bin, rolls-Div, rolls-Rem, rolls-Cond, rolls-Cat, rolls-Rep, rolls-Cast}
use Rattle.lv_ast.specs.declared.expr.Expr.TheBlock.{shape-the_row-Select-0, hidden-the_row-Select-0, shown-the_row-Select-0, shape-the_row-Expr-1, hidden-the_row-Expr-1, hidden-the_row-Expr-2}
use Rattle.lv_ast.specs.declared.expr.Select.{Select}
use Rattle.lv_ast.specs.declared.expr.Select.TheVariants as s
use Rattle.lv_ast.specs.declared.expr.Expr.TheOpen.{Expr-F, Select-F}
use Rattle.lv_ast.specs.Trees.{fold_expr, fold_exprs, fold_select, fold_selects}

module _ (M C : Type 0) (f : Expr-F M C → M) (g : Select-F M C → C) where
  fold-items : {n : _} (r : Row_of-Expr n) → fold_exprs M C f g r ≡ map (fold_expr M C f g) (items-the_row-Expr n r)
  fold-items end_of-Expr = refl
  fold-items (more_of-Expr x xs) = ap (λ ys. fold_expr M C f g x ∷ ys) (fold-items xs)

  select-items : {n : _} (r : Row_of-Select n) → fold_selects M C f g r ≡ map (fold_select M C f g) (items-the_row-Select n r)
  select-items end_of-Select = refl
  select-items (more_of-Select x xs) = ap (λ ys. fold_select M C f g x ∷ ys) (select-items xs)

  exprs : (es : List Expr) → fold_exprs M C f g (hidden-the_row-Expr-2 es) ≡ map (fold_expr M C f g) es
  exprs es = fold-items (hidden-the_row-Expr-2 es) ∙ ap (λ ys. map (fold_expr M C f g) ys) (items_hidden-the_row-Expr-2 es)

  selects : (ss : List Select) → fold_selects M C f g (hidden-the_row-Select-0 ss) ≡ map (fold_select M C f g) ss
  selects ss = select-items (hidden-the_row-Select-0 ss) ∙ ap (λ ys. map (fold_select M C f g) ys) (items_hidden-the_row-Select-0 ss)

  pub fold_expr-roll : (x : Expr-F Expr Select) → fold_expr M C f g (roll-Expr x) ≡ f (map-Expr Expr Select M C (fold_expr M C f g) (fold_select M C f g) x)
  unfolding roll-Expr shape-the_row-Select-0 hidden-the_row-Select-0 shown-the_row-Select-0 shape-the_row-Expr-1 hidden-the_row-Expr-1 denote.Hole.Carrier.hidden denote.Hole.Carrier.roll
  fold_expr-roll (Expr-F.Lit l) = refl
  fold_expr-roll (Expr-F.Name path ss) = ap (λ ys. f (Expr-F.Name path ys)) (selects ss)
  fold_expr-roll (Expr-F.Un op a) = refl
  fold_expr-roll (Expr-F.Bin op a b) = refl
  fold_expr-roll (Expr-F.Div a b) = refl
  fold_expr-roll (Expr-F.Rem a b) = refl
  fold_expr-roll (Expr-F.Cond c a b) = refl
  fold_expr-roll (Expr-F.Cat es) = ap (λ ys. f (Expr-F.Cat ys)) (exprs es)
  fold_expr-roll (Expr-F.Rep n es) = ap (λ ys. f (Expr-F.Rep (fold_expr M C f g n) ys)) (exprs es)
  fold_expr-roll (Expr-F.Cast signed a) = refl

  pub fold_expr-out : (x : Expr) → fold_expr M C f g x ≡ f (map-Expr Expr Select M C (fold_expr M C f g) (fold_select M C f g) (out-Expr x))
  fold_expr-out x = ap (fold_expr M C f g) (sym (roll-out-Expr x)) ∙ fold_expr-roll (out-Expr x)

  pub fold_expr-Lit : (l : Literal) → fold_expr M C f g (e.Lit l) ≡ f (Expr-F.Lit l)
  fold_expr-Lit l = ap (fold_expr M C f g) (sym (rolls-Lit l)) ∙ fold_expr-roll (Expr-F.Lit l)

  pub fold_expr-Name : (path : Path) (ss : List Select) → fold_expr M C f g (e.Name path ss) ≡ f (Expr-F.Name path (map (fold_select M C f g) ss))
  fold_expr-Name path ss = ap (fold_expr M C f g) (sym (rolls-Name path ss)) ∙ fold_expr-roll (Expr-F.Name path ss)

  pub fold_expr-Un : (op : Op) (a : Expr) → fold_expr M C f g (e.Un op a) ≡ f (Expr-F.Un op (fold_expr M C f g a))
  fold_expr-Un op a = ap (fold_expr M C f g) (sym (rolls-Un op a)) ∙ fold_expr-roll (Expr-F.Un op a)

  pub fold_expr-Bin : (op : Op) (a b : Expr) → fold_expr M C f g (e.Bin op a b) ≡ f (Expr-F.Bin op (fold_expr M C f g a) (fold_expr M C f g b))
  fold_expr-Bin op a b = ap (fold_expr M C f g) (sym (rolls-Bin op a b)) ∙ fold_expr-roll (Expr-F.Bin op a b)

  pub fold_expr-Div : (a b : Expr) → fold_expr M C f g (e.Div a b) ≡ f (Expr-F.Div (fold_expr M C f g a) (fold_expr M C f g b))
  fold_expr-Div a b = ap (fold_expr M C f g) (sym (rolls-Div a b)) ∙ fold_expr-roll (Expr-F.Div a b)

  pub fold_expr-Rem : (a b : Expr) → fold_expr M C f g (e.Rem a b) ≡ f (Expr-F.Rem (fold_expr M C f g a) (fold_expr M C f g b))
  fold_expr-Rem a b = ap (fold_expr M C f g) (sym (rolls-Rem a b)) ∙ fold_expr-roll (Expr-F.Rem a b)

  pub fold_expr-Cond : (c a b : Expr) → fold_expr M C f g (e.Cond c a b) ≡ f (Expr-F.Cond (fold_expr M C f g c) (fold_expr M C f g a) (fold_expr M C f g b))
  fold_expr-Cond c a b = ap (fold_expr M C f g) (sym (rolls-Cond c a b)) ∙ fold_expr-roll (Expr-F.Cond c a b)

  pub fold_expr-Cat : (es : List Expr) → fold_expr M C f g (e.Cat es) ≡ f (Expr-F.Cat (map (fold_expr M C f g) es))
  fold_expr-Cat es = ap (fold_expr M C f g) (sym (rolls-Cat es)) ∙ fold_expr-roll (Expr-F.Cat es)

  pub fold_expr-Rep : (n : Expr) (es : List Expr) → fold_expr M C f g (e.Rep n es) ≡ f (Expr-F.Rep (fold_expr M C f g n) (map (fold_expr M C f g) es))
  fold_expr-Rep n es = ap (fold_expr M C f g) (sym (rolls-Rep n es)) ∙ fold_expr-roll (Expr-F.Rep n es)

  pub fold_expr-Cast : (signed : Bool) (a : Expr) → fold_expr M C f g (e.Cast signed a) ≡ f (Expr-F.Cast signed (fold_expr M C f g a))
  fold_expr-Cast signed a = ap (fold_expr M C f g) (sym (rolls-Cast signed a)) ∙ fold_expr-roll (Expr-F.Cast signed a)

  pub fold_select-Bit : (a : Expr) → fold_select M C f g (s.Bit a) ≡ g (Select-F.Bit (fold_expr M C f g a))
  unfolding shape-the_row-Expr-1 hidden-the_row-Expr-1 denote.Hole.Carrier.hidden
  fold_select-Bit a = refl

  pub fold_select-Part : (a b : Expr) → fold_select M C f g (s.Part a b) ≡ g (Select-F.Part (fold_expr M C f g a) (fold_expr M C f g b))
  unfolding shape-the_row-Expr-1 hidden-the_row-Expr-1 denote.Hole.Carrier.hidden
  fold_select-Part a b = refl

  pub fold_select-Up : (a b : Expr) → fold_select M C f g (s.Up a b) ≡ g (Select-F.Up (fold_expr M C f g a) (fold_expr M C f g b))
  unfolding shape-the_row-Expr-1 hidden-the_row-Expr-1 denote.Hole.Carrier.hidden
  fold_select-Up a b = refl

  pub fold_select-Down : (a b : Expr) → fold_select M C f g (s.Down a b) ≡ g (Select-F.Down (fold_expr M C f g a) (fold_expr M C f g b))
  unfolding shape-the_row-Expr-1 hidden-the_row-Expr-1 denote.Hole.Carrier.hidden
  fold_select-Down a b = refl
