-- The first place of each kind of node.
use Rattle.std.proofs.Common.{◌≡◌, ℕ, Bool, List, [], ◌∷◌, ◌++◌, map, ap, ◌∙◌, refl, flat_map, length, get_or, ◌<◌, ◌+◌, drop, Some, add-one, drop-cons}
use Rattle.lv_bits.specs.declared.op.Op.{Op}
use Rattle.lv_ast.specs.declared.expr.Literal.{Literal}
use Rattle.lv_ast.specs.declared.expr.Path.{Path}
use Rattle.lv_ast.specs.declared.expr.Expr.{Expr}
use Rattle.lv_ast.specs.declared.expr.Expr.TheVariants as e
use Rattle.lv_ast.specs.declared.expr.Select.{Select}
use Rattle.lv_source.specs.Names.{Names}
use Rattle.lv_const.specs.Places.{head_of, either}
use Rattle.lv_source.specs.Sites.{Walk, walk}
use Rattle.lv_const.specs.Answers.{joined_places}
use Rattle.lv_const.proofs.Walks.{walk-Lit, walk-Name, walk-Un, walk-Bin, walk-Div, walk-Rem, walk-Cond, walk-Cat, walk-Rep, walk-Cast}

head-both : (xs ys : List ℕ) → head_of (xs ++ ys) ≡ either (head_of xs) (head_of ys)
head-both [] ys = refl
head-both (x ∷ xs) ys = refl

shown-places : (ws : List Walk) → flat_map (λ r. r.places) (map (λ w. w.shown) ws) ≡ joined_places ws
shown-places [] = refl
shown-places (w ∷ ws) = ap (λ ps. w.shown.places ++ ps) (shown-places ws)

drop_at : (es : List Expr) (i : ℕ) (x : Expr) → i < length es → get_or es i x ≡ x → drop i es ≡ x ∷ drop (i + 1) es
drop_at es i x h e = let d : drop i es ≡ get_or es i x ∷ drop (i + 1) es = rw add-one (drop-cons es i x h) in d ∙ ap (λ y. y ∷ drop (i + 1) es) e

module _ (names : Names) where
  pub head-Lit : (l : Literal) → head_of (walk names (e.Lit l)).shown.places ≡ Some l.place
  head-Lit l = ap (λ w. head_of w.shown.places) (walk-Lit names l)

  pub head-Name : (path : Path) (ss : List Select) → head_of (walk names (e.Name path ss)).shown.places ≡ Some path.place
  head-Name path ss = ap (λ w. head_of w.shown.places) (walk-Name names path ss)

  pub head-Un : (op : Op) (a : Expr) → head_of (walk names (e.Un op a)).shown.places ≡ head_of (walk names a).shown.places
  head-Un op a = ap (λ w. head_of w.shown.places) (walk-Un names op a)

  pub head-Cast : (signed : Bool) (a : Expr) → head_of (walk names (e.Cast signed a)).shown.places ≡ head_of (walk names a).shown.places
  head-Cast signed a = ap (λ w. head_of w.shown.places) (walk-Cast names signed a)

  pub head-Bin : (op : Op) (a b : Expr) → head_of (walk names (e.Bin op a b)).shown.places ≡ either (head_of (walk names a).shown.places)
      (head_of (walk names b).shown.places)
  head-Bin op a b = ap (λ w. head_of w.shown.places) (walk-Bin names op a b) ∙ head-both (walk names a).shown.places (walk names b).shown.places

  pub head-Div : (a b : Expr) → head_of (walk names (e.Div a b)).shown.places ≡ either (head_of (walk names a).shown.places)
      (head_of (walk names b).shown.places)
  head-Div a b = ap (λ w. head_of w.shown.places) (walk-Div names a b) ∙ head-both (walk names a).shown.places (walk names b).shown.places

  pub head-Rem : (a b : Expr) → head_of (walk names (e.Rem a b)).shown.places ≡ either (head_of (walk names a).shown.places)
      (head_of (walk names b).shown.places)
  head-Rem a b = ap (λ w. head_of w.shown.places) (walk-Rem names a b) ∙ head-both (walk names a).shown.places (walk names b).shown.places

  pub head-Cond : (c a b : Expr) → head_of (walk names (e.Cond c a b)).shown.places ≡
      either (either (head_of (walk names c).shown.places) (head_of (walk names a).shown.places)) (head_of (walk names b).shown.places)
  head-Cond c a b = ap (λ w. head_of w.shown.places) (walk-Cond names c a b) ∙
      (head-both ((walk names c).shown.places ++ (walk names a).shown.places) (walk names b).shown.places ∙
      ap (λ h. either h (head_of (walk names b).shown.places)) (head-both (walk names c).shown.places (walk names a).shown.places))

  pub head-Cat : (es : List Expr) → head_of (walk names (e.Cat es)).shown.places ≡ head_of (joined_places (map (walk names) es))
  head-Cat es = ap (λ w. head_of w.shown.places) (walk-Cat names es) ∙ ap head_of (shown-places (map (walk names) es))

  pub head-Rep : (n : Expr) (es : List Expr) → head_of (walk names (e.Rep n es)).shown.places ≡ either (head_of (walk names n).shown.places)
      (head_of (joined_places (map (walk names) es)))
  head-Rep n es = ap (λ w. head_of w.shown.places) (walk-Rep names n es) ∙
      (head-both (walk names n).shown.places _ ∙ ap (λ ps. either (head_of (walk names n).shown.places) (head_of ps)) (shown-places (map (walk names) es)))

-- the list from a place on
pub places-here : (names : Names) (es : List Expr) (i : ℕ) (x : Expr) → i < length es → get_or es i x ≡ x →
    head_of (joined_places (map (walk names) (drop i es))) ≡ either (head_of (walk names x).shown.places)
    (head_of (joined_places (map (walk names) (drop (i + 1) es))))
places-here names es i x h e = ap (λ ds. head_of (joined_places (map (walk names) ds))) (drop_at es i x h e) ∙
    head-both (walk names x).shown.places (joined_places (map (walk names) (drop (i + 1) es)))

pub ruleset head_rules = (head-Lit, head-Name, head-Un, head-Cast, head-Bin, head-Div, head-Rem, head-Cond, head-Cat, head-Rep)
