-- Whether operators have their operands, by the form of the tree.
use Rattle.std.proofs.Common.{◌≡◌, Bool, true, not, ◌&&◌, List, [], ◌∷◌, map, ap, ◌∙◌, refl}
use Rattle.std.specs.List.{list_all}
use Rattle.lv_bits.specs.declared.op.Op.{Op}
use Rattle.lv_bits.specs.Values.{is_unary}
use Rattle.lv_ast.specs.declared.expr.Literal.{Literal}
use Rattle.lv_ast.specs.declared.expr.Path.{Path}
use Rattle.lv_ast.specs.declared.expr.Expr.{Expr}
use Rattle.lv_ast.specs.declared.expr.Expr.TheVariants as e
use Rattle.lv_ast.specs.declared.expr.Select.{Select}
use Rattle.lv_ast.specs.declared.expr.Select.TheVariants as s
use Rattle.lv_ast.proofs.ExprFolds as fold
use Rattle.lv_resolve.specs.Forms.{operands_step, operands_choice, has_operands, has_select_operands}

all-of : {A : Type 0} (f : A → Bool) (xs : List A) → list_all (λ b. b) (map f xs) ≡ list_all f xs
all-of f [] = refl
all-of f (x ∷ xs) = ap (λ b. f x && b) (all-of f xs)

pub ok-Lit : (l : Literal) → has_operands (e.Lit l) ≡ true
unfolding has_operands has_select_operands
ok-Lit l = fold.fold_expr-Lit Bool Bool operands_step operands_choice l

pub ok-Name : (p : Path) (ss : List Select) → has_operands (e.Name p ss) ≡ list_all has_select_operands ss
unfolding has_operands has_select_operands
ok-Name p ss = fold.fold_expr-Name Bool Bool operands_step operands_choice p ss ∙ all-of has_select_operands ss

pub ok-Un : (op : Op) (a : Expr) → has_operands (e.Un op a) ≡ is_unary op && has_operands a
unfolding has_operands has_select_operands
ok-Un op a = fold.fold_expr-Un Bool Bool operands_step operands_choice op a

pub ok-Bin : (op : Op) (a b : Expr) → has_operands (e.Bin op a b) ≡ not (is_unary op) && (has_operands a && has_operands b)
unfolding has_operands has_select_operands
ok-Bin op a b = fold.fold_expr-Bin Bool Bool operands_step operands_choice op a b

pub ok-Div : (a b : Expr) → has_operands (e.Div a b) ≡ has_operands a && has_operands b
unfolding has_operands has_select_operands
ok-Div a b = fold.fold_expr-Div Bool Bool operands_step operands_choice a b

pub ok-Rem : (a b : Expr) → has_operands (e.Rem a b) ≡ has_operands a && has_operands b
unfolding has_operands has_select_operands
ok-Rem a b = fold.fold_expr-Rem Bool Bool operands_step operands_choice a b

pub ok-Cond : (c a b : Expr) → has_operands (e.Cond c a b) ≡ has_operands c && (has_operands a && has_operands b)
unfolding has_operands has_select_operands
ok-Cond c a b = fold.fold_expr-Cond Bool Bool operands_step operands_choice c a b

pub ok-Cat : (es : List Expr) → has_operands (e.Cat es) ≡ list_all has_operands es
unfolding has_operands has_select_operands
ok-Cat es = fold.fold_expr-Cat Bool Bool operands_step operands_choice es ∙ all-of has_operands es

pub ok-Rep : (n : Expr) (es : List Expr) → has_operands (e.Rep n es) ≡ list_all has_operands es
unfolding has_operands has_select_operands
ok-Rep n es = fold.fold_expr-Rep Bool Bool operands_step operands_choice n es ∙ all-of has_operands es

pub ok-Cast : (signed : Bool) (a : Expr) → has_operands (e.Cast signed a) ≡ has_operands a
unfolding has_operands has_select_operands
ok-Cast signed a = fold.fold_expr-Cast Bool Bool operands_step operands_choice signed a

pub ok-Bit : (a : Expr) → has_select_operands (s.Bit a) ≡ has_operands a
unfolding has_operands has_select_operands
ok-Bit a = fold.fold_select-Bit Bool Bool operands_step operands_choice a

pub ok-Part : (a b : Expr) → has_select_operands (s.Part a b) ≡ true
unfolding has_operands has_select_operands
ok-Part a b = fold.fold_select-Part Bool Bool operands_step operands_choice a b

pub ok-Up : (a b : Expr) → has_select_operands (s.Up a b) ≡ has_operands a
unfolding has_operands has_select_operands
ok-Up a b = fold.fold_select-Up Bool Bool operands_step operands_choice a b

pub ok-Down : (a b : Expr) → has_select_operands (s.Down a b) ≡ has_operands a
unfolding has_operands has_select_operands
ok-Down a b = fold.fold_select-Down Bool Bool operands_step operands_choice a b
