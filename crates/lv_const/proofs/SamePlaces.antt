-- The places of an expression don't depend on what its names stand for.
use Rattle.std.proofs.Common.{◌≡◌, ◌∷◌, ◌++◌, ap, refl, map, flat_map}
use Rattle.lv_ast.specs.declared.expr.Expr.{Expr, Row_of-Expr, end_of-Expr, more_of-Expr, Row_of-Select, end_of-Select, more_of-Select}
use Rattle.lv_ast.specs.declared.expr.Expr.TheVariants as e
use Rattle.lv_ast.specs.declared.expr.Select.{Select}
use Rattle.lv_ast.specs.declared.expr.Select.TheVariants as s
use Rattle.lv_ast.specs.Trees.{fold_expr, fold_exprs, fold_one, fold_select, fold_selects}
use Rattle.lv_source.specs.Names.{Names}
use Rattle.lv_source.specs.Sites.{Walk, WalkStep, walk_step, walk_select_step, walk, step_shown, step_places, first_of, first_place}
use Rattle.lv_const.proofs.WalkReads.{two-same}

module _ (names others : Names) where
  mutual
    fold-places : (x : Expr) → (fold_expr Walk WalkStep (walk_step names) walk_select_step x).shown.places ≡
        (fold_expr Walk WalkStep (walk_step others) walk_select_step x).shown.places
    fold-places (e.Lit l) = refl
    fold-places (e.Name' path n ss) = ap (λ ps. path.place ∷ ps) (fold-selects ss)
    fold-places (e.Un' op n a) = fold-one a
    fold-places (e.Bin' op n a m b) = two-same (λ ps qs. ps ++ qs) (fold-one a) (fold-one b)
    fold-places (e.Div' n a m b) = two-same (λ ps qs. ps ++ qs) (fold-one a) (fold-one b)
    fold-places (e.Rem' n a m b) = two-same (λ ps qs. ps ++ qs) (fold-one a) (fold-one b)
    fold-places (e.Cond' n c m a k b) = two-same (λ ps qs. ps ++ qs) (two-same (λ ps qs. ps ++ qs) (fold-one c) (fold-one a)) (fold-one b)
    fold-places (e.Cat' n es) = fold-all es
    fold-places (e.Rep' n a m es) = two-same (λ ps qs. ps ++ qs) (fold-one a) (fold-all es)
    fold-places (e.Cast' signed n a) = fold-one a

    fold-one : {n : _} (r : Row_of-Expr n) → (fold_one Walk WalkStep (walk_step names) walk_select_step r).shown.places ≡
        (fold_one Walk WalkStep (walk_step others) walk_select_step r).shown.places
    fold-one end_of-Expr = refl
    fold-one (more_of-Expr x xs) = fold-places x

    fold-all : {n : _} (r : Row_of-Expr n) → flat_map (λ v. v.places) (map (λ w. w.shown) (fold_exprs Walk WalkStep (walk_step names) walk_select_step r)) ≡
        flat_map (λ v. v.places) (map (λ w. w.shown) (fold_exprs Walk WalkStep (walk_step others) walk_select_step r))
    fold-all end_of-Expr = refl
    fold-all (more_of-Expr x xs) = two-same (λ ps qs. ps ++ qs) (fold-places x) (fold-all xs)

    fold-select : (x : Select) → step_places (step_shown (fold_select Walk WalkStep (walk_step names) walk_select_step x)) ≡
        step_places (step_shown (fold_select Walk WalkStep (walk_step others) walk_select_step x))
    fold-select (s.Bit' n a) = fold-one a
    fold-select (s.Part' n a m b) = two-same (λ ps qs. ps ++ qs) (fold-one a) (fold-one b)
    fold-select (s.Up' n a m b) = two-same (λ ps qs. ps ++ qs) (fold-one a) (fold-one b)
    fold-select (s.Down' n a m b) = two-same (λ ps qs. ps ++ qs) (fold-one a) (fold-one b)

    fold-selects : {n : _} (r : Row_of-Select n) → flat_map step_places (map step_shown (fold_selects Walk WalkStep (walk_step names) walk_select_step r)) ≡
        flat_map step_places (map step_shown (fold_selects Walk WalkStep (walk_step others) walk_select_step r))
    fold-selects end_of-Select = refl
    fold-selects (more_of-Select x xs) = two-same (λ ps qs. ps ++ qs) (fold-select x) (fold-selects xs)

  pub same-first : (x : Expr) → first_place (walk names x).shown ≡ first_place (walk others x).shown
  unfolding walk
  same-first x = ap first_of (fold-places x)
