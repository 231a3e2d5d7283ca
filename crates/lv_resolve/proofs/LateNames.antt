-- The first late name of each kind of node.
use Rattle.std.proofs.Common.{◌≡◌, ℕ, ◌+◌, ◌<◌, Bool, List, [], ◌∷◌, ◌++◌, map, ap, ◌∙◌, sym, refl, flat_map, length, get_or, drop, Option, Some, None, add-one, drop-cons}
use Rattle.lv_bits.specs.declared.op.Op.{Op}
use Rattle.lv_ast.specs.declared.expr.Literal.{Literal}
use Rattle.lv_ast.specs.declared.expr.Path.{Path}
use Rattle.lv_ast.specs.declared.expr.Expr.{Expr}
use Rattle.lv_ast.specs.declared.expr.Expr.TheVariants as e
use Rattle.lv_ast.specs.declared.expr.Select.{Select}
use Rattle.lv_ast.specs.declared.expr.Select.TheVariants as s
use Rattle.lv_ast.proofs.ExprFolds as fold
use Rattle.lv_resolve.specs.declared.error.ResolveError.{ResolveError}
use Rattle.lv_resolve.specs.Late.{path_step, path_choice, paths_in, paths_within, or_else, first_late}

all-paths : {A : Type 0} (f : A → List Path) (xs : List A) → flat_map (λ ps. ps) (map f xs) ≡ flat_map f xs
all-paths f [] = refl
all-paths f (x ∷ xs) = ap (λ ps. f x ++ ps) (all-paths f xs)

pub paths-Lit : (l : Literal) → paths_in (e.Lit l) ≡ []
unfolding paths_in paths_within
paths-Lit l = fold.fold_expr-Lit (List Path) (List Path) path_step path_choice l

pub paths-Name : (p : Path) (ss : List Select) → paths_in (e.Name p ss) ≡ p ∷ flat_map paths_within ss
unfolding paths_in paths_within
paths-Name p ss = fold.fold_expr-Name (List Path) (List Path) path_step path_choice p ss ∙ ap (λ ps. p ∷ ps) (all-paths paths_within ss)

pub paths-Un : (op : Op) (a : Expr) → paths_in (e.Un op a) ≡ paths_in a
unfolding paths_in paths_within
paths-Un op a = fold.fold_expr-Un (List Path) (List Path) path_step path_choice op a

pub paths-Bin : (op : Op) (a b : Expr) → paths_in (e.Bin op a b) ≡ paths_in a ++ paths_in b
unfolding paths_in paths_within
paths-Bin op a b = fold.fold_expr-Bin (List Path) (List Path) path_step path_choice op a b

pub paths-Div : (a b : Expr) → paths_in (e.Div a b) ≡ paths_in a ++ paths_in b
unfolding paths_in paths_within
paths-Div a b = fold.fold_expr-Div (List Path) (List Path) path_step path_choice a b

pub paths-Rem : (a b : Expr) → paths_in (e.Rem a b) ≡ paths_in a ++ paths_in b
unfolding paths_in paths_within
paths-Rem a b = fold.fold_expr-Rem (List Path) (List Path) path_step path_choice a b

pub paths-Cond : (c a b : Expr) → paths_in (e.Cond c a b) ≡ paths_in c ++ paths_in a ++ paths_in b
unfolding paths_in paths_within
paths-Cond c a b = fold.fold_expr-Cond (List Path) (List Path) path_step path_choice c a b

pub paths-Cat : (es : List Expr) → paths_in (e.Cat es) ≡ flat_map paths_in es
unfolding paths_in paths_within
paths-Cat es = fold.fold_expr-Cat (List Path) (List Path) path_step path_choice es ∙ all-paths paths_in es

pub paths-Rep : (n : Expr) (es : List Expr) → paths_in (e.Rep n es) ≡ paths_in n ++ flat_map paths_in es
unfolding paths_in paths_within
paths-Rep n es = fold.fold_expr-Rep (List Path) (List Path) path_step path_choice n es ∙ ap (λ ps. paths_in n ++ ps) (all-paths paths_in es)

pub paths-Cast : (signed : Bool) (a : Expr) → paths_in (e.Cast signed a) ≡ paths_in a
unfolding paths_in paths_within
paths-Cast signed a = fold.fold_expr-Cast (List Path) (List Path) path_step path_choice signed a

pub within-Bit : (a : Expr) → paths_within (s.Bit a) ≡ paths_in a
unfolding paths_in paths_within
within-Bit a = fold.fold_select-Bit (List Path) (List Path) path_step path_choice a

pub within-Part : (a b : Expr) → paths_within (s.Part a b) ≡ paths_in a ++ paths_in b
unfolding paths_in paths_within
within-Part a b = fold.fold_select-Part (List Path) (List Path) path_step path_choice a b

pub within-Up : (a b : Expr) → paths_within (s.Up a b) ≡ paths_in a ++ paths_in b
unfolding paths_in paths_within
within-Up a b = fold.fold_select-Up (List Path) (List Path) path_step path_choice a b

pub within-Down : (a b : Expr) → paths_within (s.Down a b) ≡ paths_in a ++ paths_in b
unfolding paths_in paths_within
within-Down a b = fold.fold_select-Down (List Path) (List Path) path_step path_choice a b

either-both : (a b c : Option ResolveError) → or_else (or_else a b) c ≡ or_else a (or_else b c)
either-both None b c = refl
either-both (Some x) b c = refl

pub late-both : (f : Path → Option ResolveError) (ps qs : List Path) → first_late f (ps ++ qs) ≡ or_else (first_late f ps) (first_late f qs)
late-both f [] qs = refl
late-both f (p ∷ ps) qs = ap (or_else (f p)) (late-both f ps qs) ∙ sym (either-both (f p) (first_late f ps) (first_late f qs))

-- the list from a place on
pub late-here : {A : Type 0} (f : Path → Option ResolveError) (g : A → List Path) (es : List A) (i : ℕ) (x : A) → i < length es → get_or es i x ≡ x →
    first_late f (flat_map g (drop i es)) ≡ or_else (first_late f (g x)) (first_late f (flat_map g (drop (i + 1) es)))
late-here f g es i x h e =
    let d : drop i es ≡ get_or es i x ∷ drop (i + 1) es = rw add-one (drop-cons es i x h) in
    ap (λ ys. first_late f (flat_map g ys)) (d ∙ ap (λ y. y ∷ drop (i + 1) es) e) ∙ late-both f (g x) (flat_map g (drop (i + 1) es))

module _ {A : Type 0} (f : Path → Option ResolveError) (g : A → List Path) (es : List A) (i : ℕ) (x : A) (h : i < length es) (e : get_or es i x ≡ x)
    (k : first_late f (flat_map g es) ≡ first_late f (flat_map g (drop i es))) where
  pub late-found : (q : ResolveError) → Some q ≡ first_late f (g x) → Some q ≡ first_late f (flat_map g es)
  late-found q m = sym (k ∙ (late-here f g es i x h e ∙ ap (λ z. or_else z (first_late f (flat_map g (drop (i + 1) es)))) (sym m)))

  pub late-next : None ≡ first_late f (g x) → first_late f (flat_map g es) ≡ first_late f (flat_map g (drop (i + 1) es))
  late-next m = k ∙ (late-here f g es i x h e ∙ ap (λ z. or_else z (first_late f (flat_map g (drop (i + 1) es)))) (sym m))

pub ruleset late_rules = (
  paths-Lit,
  paths-Name,
  paths-Un,
  paths-Bin,
  paths-Div,
  paths-Rem,
  paths-Cond,
  paths-Cat,
  paths-Rep,
  paths-Cast,
  within-Bit,
  within-Part,
  within-Up,
  within-Down,
  late-both,
  late-here,
)
