-- What is known of an expression where it stands is its reading.
use Rattle.std.proofs.Common.{◌≡◌, [], ◌∷◌, ap, ◌∙◌, refl, map}
use Rattle.lv_ast.specs.declared.expr.Expr.{Expr, Row_of-Expr, end_of-Expr, more_of-Expr, Row_of-Select, end_of-Select, more_of-Select}
use Rattle.lv_ast.specs.declared.expr.Expr.TheVariants as e
use Rattle.lv_ast.specs.declared.expr.Expr.TheOpen.{Select-F}
use Rattle.lv_ast.specs.declared.expr.Select.{Select}
use Rattle.lv_ast.specs.declared.expr.Select.TheVariants as s
use Rattle.lv_ast.specs.Trees.{fold_expr, fold_exprs, fold_one, fold_select, fold_selects}
use Rattle.lv_source.specs.Names.{Names, known}
use Rattle.lv_source.specs.Values.{unary, binary, chosen, concatenated, replicated, cast, divided, quotient, remainder}
use Rattle.lv_source.specs.Meaning.{Reading, Choice, reading, meanings, named, read_step, choice, read_expr}
use Rattle.lv_source.specs.Sites.{Walk, WalkStep, walk_step, walk_select_step, walk, step_shown, step_choice}

pub two-same : {A B C : Type 0} (f : A → B → C) {a b : A} {c d : B} → a ≡ b → c ≡ d → f a c ≡ f b d
two-same f {a = a} {d = d} h k = ap (f a) k ∙ ap (λ x. f x d) h

module _ (names : Names) where
  mutual
    fold-reads : (x : Expr) → (fold_expr Walk WalkStep (walk_step names) walk_select_step x).shown.reading ≡ fold_expr Reading Choice (read_step names) choice x
    fold-reads (e.Lit l) = refl
    fold-reads (e.Name' path n ss) = ap (named (known (names path))) (fold-selects ss)
    fold-reads (e.Un' op n a) = ap (λ r. reading (unary op r.meaning) (r ∷ [])) (fold-one a)
    fold-reads (e.Bin' op n a m b) = two-same (λ r q. reading (binary op r.meaning q.meaning) (r ∷ q ∷ [])) (fold-one a) (fold-one b)
    fold-reads (e.Div' n a m b) = two-same (λ r q. reading (divided quotient r.meaning q.meaning) (r ∷ q ∷ [])) (fold-one a) (fold-one b)
    fold-reads (e.Rem' n a m b) = two-same (λ r q. reading (divided remainder r.meaning q.meaning) (r ∷ q ∷ [])) (fold-one a) (fold-one b)
    fold-reads (e.Cond' n c m a k b) =
        ap (λ r. reading (chosen r.meaning (fold_one Walk WalkStep (walk_step names) walk_select_step a).shown.reading.meaning
        (fold_one Walk WalkStep (walk_step names) walk_select_step b).shown.reading.meaning)
        (r ∷ (fold_one Walk WalkStep (walk_step names) walk_select_step a).shown.reading ∷ (fold_one Walk WalkStep
        (walk_step names) walk_select_step b).shown.reading ∷ []))
        (fold-one c) ∙
        two-same (λ r q. reading (chosen (fold_one Reading Choice (read_step names) choice c).meaning r.meaning q.meaning)
        (fold_one Reading Choice (read_step names) choice c ∷ r ∷ q ∷ [])) (fold-one a) (fold-one b)
    fold-reads (e.Cat' n es) = ap (λ rs. reading (concatenated (meanings rs)) rs) (fold-all es)
    fold-reads (e.Rep' n a m es) = two-same (λ r rs. reading (replicated r.meaning (meanings rs)) (r ∷ rs)) (fold-one a) (fold-all es)
    fold-reads (e.Cast' signed n a) = ap (λ r. reading (cast signed r.meaning) (r ∷ [])) (fold-one a)

    fold-one : {n : _} (r : Row_of-Expr n) → (fold_one Walk WalkStep (walk_step names) walk_select_step r).shown.reading ≡ fold_one Reading Choice
        (read_step names) choice r
    fold-one end_of-Expr = refl
    fold-one (more_of-Expr x xs) = fold-reads x

    fold-all : {n : _} (r : Row_of-Expr n) → map (λ r. r.reading)
        (map (λ w. w.shown) (fold_exprs Walk WalkStep (walk_step names) walk_select_step r)) ≡ fold_exprs Reading Choice
        (read_step names) choice r
    fold-all end_of-Expr = refl
    fold-all (more_of-Expr x xs) = two-same (λ r rs. r ∷ rs) (fold-reads x) (fold-all xs)

    fold-choice : (x : Select) → step_choice (step_shown (fold_select Walk WalkStep (walk_step names) walk_select_step x)) ≡ fold_select Reading Choice
        (read_step names) choice x
    fold-choice (s.Bit' n a) = ap (λ r. Select-F.Bit r) (fold-one a)
    fold-choice (s.Part' n a m b) = two-same (λ r q. Select-F.Part r q) (fold-one a) (fold-one b)
    fold-choice (s.Up' n a m b) = two-same (λ r q. Select-F.Up r q) (fold-one a) (fold-one b)
    fold-choice (s.Down' n a m b) = two-same (λ r q. Select-F.Down r q) (fold-one a) (fold-one b)

    fold-selects : {n : _} (r : Row_of-Select n) → map step_choice
        (map step_shown (fold_selects Walk WalkStep (walk_step names) walk_select_step r)) ≡ fold_selects Reading Choice
        (read_step names) choice r
    fold-selects end_of-Select = refl
    fold-selects (more_of-Select x xs) = two-same (λ r rs. r ∷ rs) (fold-choice x) (fold-selects xs)

  pub walk-reads : (x : Expr) → (walk names x).shown.reading ≡ read_expr names x
  unfolding walk read_expr
  walk-reads x = fold-reads x
