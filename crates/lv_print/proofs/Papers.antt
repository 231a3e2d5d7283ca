-- What is written on a paper in steps.
use Rattle.std.proofs.Common.{◌≡◌, ℕ, suc, ◌+◌, ◌<◌, ◌≤◌, Bool, true, false, List, [], ◌∷◌, ◌++◌, map, length, drop, get_or, refl, sym, ap, ◌∙◌, arith, drop-cons}
use Rattle.std.proofs.lemmas.List.{drop_all}
use Rattle.std.specs.Prelude.{codes, Result, OnOk, Ok, Err}
use Rattle.lv_bits.specs.declared.text.NoMemory.{NoMemory}
use Rattle.lv_bits.specs.declared.op.Op.{Op}
use Rattle.lv_ast.specs.declared.expr.Literal.{Literal}
use Rattle.lv_ast.specs.declared.expr.Path.{Path}
use Rattle.lv_ast.specs.declared.expr.Expr.{Expr}
use Rattle.lv_ast.specs.declared.expr.Expr.TheVariants as e
use Rattle.lv_ast.specs.declared.expr.Select.{Select}
use Rattle.lv_ast.specs.declared.expr.Select.TheVariants as s
use Rattle.lv_ast.proofs.ExprFolds as fold
use Rattle.lv_print.specs.declared.paper.Paper.{Paper}
use Rattle.lv_print.specs.Written.{Written, mark, others, commas, joined}
use Rattle.lv_print.specs.Literals.{literal_tokens}
use Rattle.lv_print.specs.Expressions.{parens, braces, brackets, path_tokens, op_bytes, between_tokens, choice_tokens, span_tokens, cast_word, expr_step, select_step, expr_tokens, select_tokens}
use Rattle.lv_print.specs.Paper.{put, with_tokens, after_comma}

pub with-none : (p : Paper) → with_tokens p [] ≡ p
unfolding with_tokens
with-none p = refl

pub with-more : (p : Paper) (w : Written) (ws : List Written) → with_tokens p (w ∷ ws) ≡ with_tokens (put p w) ws
unfolding with_tokens
with-more p w ws = refl

pub with-append : (p : Paper) (a b : List Written) → with_tokens p (a ++ b) ≡ with_tokens (with_tokens p a) b
unfolding with_tokens
with-append p [] b = refl
with-append p (w ∷ a) b = with-append (put p w) a b

pub ok-same : (r : Result (Unit {0}) NoMemory) (x y z : Paper) → OnOk r (x ≡ y) → y ≡ z → OnOk r (x ≡ z)
ok-same (Ok u) x y z h e = h ∙ e
ok-same (Err u) x y z h e = h

-- the tokens of a loop's head up to its test
pub loop_written : (p0 p1 p2 p3 p4 p5 p6 p7 : Paper) (a b c d e f : Written) (x y : List Written) → p1 ≡ put p0 a → p2 ≡ put p1 b → p3 ≡ put p2 c → p4 ≡ put p3 d → p5 ≡ with_tokens p4 x →
    p6 ≡ put p5 e → p7 ≡ with_tokens p6 y → put p7 f ≡ with_tokens p0 (a ∷ b ∷ c ∷ d ∷ (x ++ (e ∷ (y ++ (f ∷ [])))))
unfolding with_tokens
loop_written p0 p1 p2 p3 p4 p5 p6 p7 a b c d e f x y h1 h2 h3 h4 h5 h6 h7 =
    ap (λ z. put z f) (h7 ∙ ap (λ z. with_tokens z y) (h6 ∙ ap (λ z. put z e) (h5 ∙ ap (λ z. with_tokens z x) (h4 ∙ ap (λ z. put z d) (h3 ∙ ap (λ z. put z c) (h2 ∙ ap (λ z. put z b) h1)))))) ∙
    sym (with-append (put (put (put (put p0 a) b) c) d) x (e ∷ (y ++ (f ∷ []))) ∙ with-append (put (with_tokens (put (put (put (put p0 a) b) c) d) x) e) y (f ∷ []))

-- ---- lists

pub others-none : others [] ≡ []
unfolding others
others-none = refl

pub others-more : (x : List Written) (xs : List (List Written)) → others (x ∷ xs) ≡ mark (codes ",") ∷ (x ++ others xs)
unfolding others
others-more x xs = refl

pub joined-none : joined [] ≡ []
unfolding joined
joined-none = refl

pub joined-more : (x : List Written) (xs : List (List Written)) → joined (x ∷ xs) ≡ x ++ joined xs
unfolding joined
joined-more x xs = refl

-- what is left of a list with commas
abbrev pub left_of : Bool → List (List Written) → List Written
left_of true xs = commas xs
left_of false xs = others xs

turn : (first : Bool) (p : Paper) (x : List Written) (xs : List (List Written)) → with_tokens (with_tokens (after_comma first p) x) (others xs) ≡ with_tokens p (left_of first (x ∷ xs))
turn true p x xs = sym (with-append p x (others xs))
turn false p x xs = sym (ap (with_tokens p) (others-more x xs) ∙ with-more p _ _ ∙ with-append (put p (mark (codes ","))) x (others xs))

module _ {X : Type 0} (tokens : X → List Written) (xs : List X) where
  dropped : (i : ℕ) (x : X) → i < length xs → x ≡ get_or xs i x → drop i xs ≡ x ∷ drop (i + 1) xs
  dropped i x h e = let f : suc i ≡ i + 1 = omega arith in drop-cons xs i x h ∙ ap (λ y. y ∷ drop (suc i) xs) (sym e) ∙ ap (λ j. x ∷ drop j xs) f

  pub list_turn : (i : ℕ) (x : X) (first : Bool) (p q r s : Paper) → i < length xs → x ≡ get_or xs i x → q ≡ after_comma first p → r ≡ with_tokens q (tokens x) →
      with_tokens p (left_of first (map tokens (drop i xs))) ≡ s → with_tokens r (others (map tokens (drop (i + 1) xs))) ≡ s
  list_turn i x first p q r s h e f g k =
      ap (λ z. with_tokens z (others (map tokens (drop (i + 1) xs)))) (g ∙ ap (λ z. with_tokens z (tokens x)) f) ∙ turn first p (tokens x) (map tokens (drop (i + 1) xs)) ∙
      ap (λ z. with_tokens p (left_of first (map tokens z))) (sym (dropped i x h e)) ∙ k

  pub joined_turn : (i : ℕ) (x : X) (p r s : Paper) → i < length xs → x ≡ get_or xs i x → r ≡ with_tokens p (tokens x) →
      with_tokens p (joined (map tokens (drop i xs))) ≡ s → with_tokens r (joined (map tokens (drop (i + 1) xs))) ≡ s
  joined_turn i x p r s h e g k =
      ap (λ z. with_tokens z (joined (map tokens (drop (i + 1) xs)))) g ∙ sym (with-append p (tokens x) _) ∙ ap (with_tokens p) (sym (joined-more (tokens x) _)) ∙
      ap (λ z. with_tokens p (joined (map tokens z))) (sym (dropped i x h e)) ∙ k

  all-dropped : (i : ℕ) → length xs ≤ i → drop i xs ≡ []
  all-dropped i h = drop_all i xs h

  left-none : (first : Bool) → left_of first [] ≡ []
  left-none true = refl
  left-none false = others-none

  pub list_end : (i : ℕ) (first : Bool) (p s : Paper) → length xs ≤ i → with_tokens p (left_of first (map tokens (drop i xs))) ≡ s → p ≡ s
  list_end i first p s h k = sym (with-none p) ∙ ap (with_tokens p) (sym (left-none first)) ∙ ap (λ z. with_tokens p (left_of first (map tokens z))) (sym (all-dropped i h)) ∙ k

  pub joined_end : (i : ℕ) (p s : Paper) → length xs ≤ i → with_tokens p (joined (map tokens (drop i xs))) ≡ s → p ≡ s
  joined_end i p s h k = sym (with-none p) ∙ ap (with_tokens p) (sym joined-none) ∙ ap (λ z. with_tokens p (joined (map tokens z))) (sym (all-dropped i h)) ∙ k

-- ---- expressions

pub tokens-Lit : (l : Literal) → expr_tokens (e.Lit l) ≡ literal_tokens l
unfolding expr_tokens
tokens-Lit l = fold.fold_expr-Lit (List Written) (List Written) expr_step select_step l

pub tokens-Name : (path : Path) (ss : List Select) → expr_tokens (e.Name path ss) ≡ path_tokens path ++ joined (map select_tokens ss)
unfolding expr_tokens select_tokens
tokens-Name path ss = fold.fold_expr-Name (List Written) (List Written) expr_step select_step path ss

pub tokens-Un : (op : Op) (a : Expr) → expr_tokens (e.Un op a) ≡ parens (mark (op_bytes op) ∷ expr_tokens a)
unfolding expr_tokens
tokens-Un op a = fold.fold_expr-Un (List Written) (List Written) expr_step select_step op a

pub tokens-Bin : (op : Op) (a b : Expr) → expr_tokens (e.Bin op a b) ≡ between_tokens (op_bytes op) (expr_tokens a) (expr_tokens b)
unfolding expr_tokens
tokens-Bin op a b = fold.fold_expr-Bin (List Written) (List Written) expr_step select_step op a b

pub tokens-Div : (a b : Expr) → expr_tokens (e.Div a b) ≡ between_tokens (codes "/") (expr_tokens a) (expr_tokens b)
unfolding expr_tokens
tokens-Div a b = fold.fold_expr-Div (List Written) (List Written) expr_step select_step a b

pub tokens-Rem : (a b : Expr) → expr_tokens (e.Rem a b) ≡ between_tokens (codes "%") (expr_tokens a) (expr_tokens b)
unfolding expr_tokens
tokens-Rem a b = fold.fold_expr-Rem (List Written) (List Written) expr_step select_step a b

pub tokens-Cond : (c a b : Expr) → expr_tokens (e.Cond c a b) ≡ choice_tokens (expr_tokens c) (expr_tokens a) (expr_tokens b)
unfolding expr_tokens
tokens-Cond c a b = fold.fold_expr-Cond (List Written) (List Written) expr_step select_step c a b

pub tokens-Cat : (es : List Expr) → expr_tokens (e.Cat es) ≡ braces (commas (map expr_tokens es))
unfolding expr_tokens
tokens-Cat es = fold.fold_expr-Cat (List Written) (List Written) expr_step select_step es

pub tokens-Rep : (n : Expr) (es : List Expr) → expr_tokens (e.Rep n es) ≡ braces (expr_tokens n ++ braces (commas (map expr_tokens es)))
unfolding expr_tokens
tokens-Rep n es = fold.fold_expr-Rep (List Written) (List Written) expr_step select_step n es

pub tokens-Cast : (signed : Bool) (a : Expr) → expr_tokens (e.Cast signed a) ≡ cast_word signed ∷ parens (expr_tokens a)
unfolding expr_tokens
tokens-Cast signed a = fold.fold_expr-Cast (List Written) (List Written) expr_step select_step signed a

pub tokens-Bit : (a : Expr) → select_tokens (s.Bit a) ≡ brackets (expr_tokens a)
unfolding expr_tokens select_tokens
tokens-Bit a = fold.fold_select-Bit (List Written) (List Written) expr_step select_step a

pub tokens-Part : (a b : Expr) → select_tokens (s.Part a b) ≡ span_tokens (codes ":") (expr_tokens a) (expr_tokens b)
unfolding expr_tokens select_tokens
tokens-Part a b = fold.fold_select-Part (List Written) (List Written) expr_step select_step a b

pub tokens-Up : (a b : Expr) → select_tokens (s.Up a b) ≡ span_tokens (codes "+:") (expr_tokens a) (expr_tokens b)
unfolding expr_tokens select_tokens
tokens-Up a b = fold.fold_select-Up (List Written) (List Written) expr_step select_step a b

pub tokens-Down : (a b : Expr) → select_tokens (s.Down a b) ≡ span_tokens (codes "-:") (expr_tokens a) (expr_tokens b)
unfolding expr_tokens select_tokens
tokens-Down a b = fold.fold_select-Down (List Written) (List Written) expr_step select_step a b

pub ruleset writing = (with-none, with-more, with-append, ok-same)

pub ruleset expr_rules = (
  writing,
  tokens-Lit,
  tokens-Name,
  tokens-Un,
  tokens-Bin,
  tokens-Div,
  tokens-Rem,
  tokens-Cond,
  tokens-Cat,
  tokens-Rep,
  tokens-Cast,
  tokens-Bit,
  tokens-Part,
  tokens-Up,
  tokens-Down,
)
