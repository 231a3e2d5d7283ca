-- A constant expression is judged alike whatever signals there are.
use Rattle.std.proofs.Common.{◌≡◌, Bool, true, not, ◌&&◌, List, [], ◌∷◌, map, refl, ap, ◌∙◌}
use Rattle.std.specs.List.{list_all}
use Rattle.lv_source.specs.Meaning.{Reading, all_constant, parts_of}
use Rattle.lv_source.specs.NodeRules.{is_width, is_select_fault}
use Rattle.lv_source.proofs.Tests.{and-left, and-right}
use Rattle.lv_const.specs.Constants.{constant_of}
use Rattle.lv_const.proofs.WalkReads.{two-same}
use Rattle.lv_flat.specs.declared.expr.FlatExpr.{FlatExpr, Row_of-FlatExpr, end_of-FlatExpr, more_of-FlatExpr, Row_of-FlatSelect, end_of-FlatSelect, more_of-FlatSelect}
use Rattle.lv_flat.specs.declared.expr.FlatExpr.TheVariants as e
use Rattle.lv_flat.specs.declared.expr.FlatExpr.TheOpen.{FlatExpr-F, FlatSelect-F}
use Rattle.lv_flat.specs.declared.expr.FlatSelect.{FlatSelect}
use Rattle.lv_flat.specs.declared.expr.FlatSelect.TheVariants as s
use Rattle.lv_flat.specs.Signals.{Signals, signal_at}
use Rattle.lv_flat.specs.Judged.{Judged, JudgedSelect, judge_step, judge_choice, judge, readings, choices, step_of}
use Rattle.lv_flat.specs.Trees.{fold_expr, fold_exprs, fold_one, fold_select, fold_selects}
use Rattle.lv_lower_exprs.proofs.Naming.{never-constant}

abbrev Constants : List Judged → Bool
Constants rs = list_all (λ (r : Reading). r.constant) (readings rs)

abbrev Goods : List Judged → Bool
Goods rs = list_all (λ (r : Judged). r.good) rs

abbrev GoodChoices : List JudgedSelect → Bool
GoodChoices cs = list_all (λ (c : JudgedSelect). c.good) cs

module _ (S : Signals) where
  abbrev here : FlatExpr → Judged
  here x = fold_expr Judged JudgedSelect (judge_step S) judge_choice x

  abbrev there : FlatExpr → Judged
  there x = fold_expr Judged JudgedSelect (judge_step []) judge_choice x

  abbrev one_here : {n : _} → Row_of-FlatExpr n → Judged
  one_here r = fold_one Judged JudgedSelect (judge_step S) judge_choice r

  abbrev one_there : {n : _} → Row_of-FlatExpr n → Judged
  one_there r = fold_one Judged JudgedSelect (judge_step []) judge_choice r

  mutual
    alike : (x : FlatExpr) → (here x).reading.constant ≡ true → (here x).good ≡ true → here x ≡ there x
    alike (e.Lit l) k g = refl
    alike (e.Const' c n ss) k g =
        let cs : List JudgedSelect = fold_selects Judged JudgedSelect (judge_step S) judge_choice ss in
        let fault : Bool = is_select_fault (constant_of [] c) (map step_of (choices cs)) in
        let gs : (not fault && GoodChoices cs) ≡ true = and-right (is_width (judge_step S (FlatExpr-F.Const c cs)).reading.meaning.width) (not fault && GoodChoices cs) g in
        ap (λ xs. judge_step [] (FlatExpr-F.Const c xs)) (alike-selects ss k (and-right (not fault) (GoodChoices cs) gs))
    alike (e.Signal' j n ss) k g =
        absurd (never-constant (signal_at S j).sort (and-left _ _ (and-right _ _ g)) (and-left _ _ k))
    alike (e.Un' op n a) k g = ap (λ j. judge_step [] (FlatExpr-F.Un op j)) (alike-one a (and-left _ _ k) (and-right _ _ (and-right _ _ g)))
    alike (e.Bin' op n a m b) k g =
        let gs = and-right _ _ (and-right _ _ g) in
        two-same (λ i j. judge_step [] (FlatExpr-F.Bin op i j)) (alike-one a (and-left _ _ k) (and-left _ _ gs))
        (alike-one b (and-left _ _ (and-right _ _ k)) (and-right _ _ gs))
    alike (e.Div' n a m b) k g =
        let gs = and-right _ _ g in
        two-same (λ i j. judge_step [] (FlatExpr-F.Div i j)) (alike-one a (and-left _ _ k) (and-left _ _ (and-left _ _ gs)))
        (alike-one b (and-left _ _ (and-right _ _ k)) (and-right _ _ (and-left _ _ gs)))
    alike (e.Rem' n a m b) k g =
        let gs = and-right _ _ g in
        two-same (λ i j. judge_step [] (FlatExpr-F.Rem i j)) (alike-one a (and-left _ _ k) (and-left _ _ (and-left _ _ gs)))
        (alike-one b (and-left _ _ (and-right _ _ k)) (and-right _ _ (and-left _ _ gs)))
    alike (e.Cond' n c m a l b) k g =
        let gs = and-right _ _ g in
        let ks = and-right _ _ k in
        ap (λ j. judge_step [] (FlatExpr-F.Cond j (one_here a) (one_here b))) (alike-one c (and-left _ _ k) (and-left _ _ gs)) ∙
        two-same (λ i j. judge_step [] (FlatExpr-F.Cond (one_there c) i j)) (alike-one a (and-left _ _ ks) (and-left _ _ (and-right _ _ gs)))
        (alike-one b (and-left _ _ (and-right _ _ ks)) (and-right _ _ (and-right _ _ gs)))
    alike (e.Cat' n es) k g = ap (λ js. judge_step [] (FlatExpr-F.Cat js)) (alike-all es k (and-right _ _ g))
    alike (e.Rep' count n es) k g = ap (λ js. judge_step [] (FlatExpr-F.Rep count js)) (alike-all es k (and-right _ _ g))
    alike (e.Cast' signed n a) k g = ap (λ j. judge_step [] (FlatExpr-F.Cast signed j)) (alike-one a (and-left _ _ k) (and-right _ _ g))

    alike-one : {n : _} (r : Row_of-FlatExpr n) → (one_here r).reading.constant ≡ true → (one_here r).good ≡ true → one_here r ≡ one_there r
    alike-one end_of-FlatExpr k g = refl
    alike-one (more_of-FlatExpr x xs) k g = alike x k g

    alike-all : {n : _} (r : Row_of-FlatExpr n) → Constants (fold_exprs Judged JudgedSelect (judge_step S) judge_choice r) ≡ true →
        Goods (fold_exprs Judged JudgedSelect (judge_step S) judge_choice r) ≡ true →
        fold_exprs Judged JudgedSelect (judge_step S) judge_choice r ≡ fold_exprs Judged JudgedSelect (judge_step []) judge_choice r
    alike-all end_of-FlatExpr k g = refl
    alike-all (more_of-FlatExpr x xs) k g =
        two-same (λ i is. i ∷ is) (alike x (and-left _ _ k) (and-left _ _ g)) (alike-all xs (and-right _ _ k) (and-right _ _ g))

    alike-select : (x : FlatSelect) → list_all (λ (r : Reading). r.constant) (parts_of (fold_select Judged JudgedSelect (judge_step S) judge_choice x).choice) ≡ true →
        (fold_select Judged JudgedSelect (judge_step S) judge_choice x).good ≡ true →
        fold_select Judged JudgedSelect (judge_step S) judge_choice x ≡ fold_select Judged JudgedSelect (judge_step []) judge_choice x
    alike-select (s.Bit' n a) k g = ap (λ j. judge_choice (FlatSelect-F.Bit j)) (alike-one a (and-left _ _ k) g)
    alike-select (s.Part l r) k g = refl
    alike-select (s.Up' n a w) k g = ap (λ j. judge_choice (FlatSelect-F.Up j w)) (alike-one a (and-left _ _ k) g)
    alike-select (s.Down' n a w) k g = ap (λ j. judge_choice (FlatSelect-F.Down j w)) (alike-one a (and-left _ _ k) g)

    alike-selects : {n : _} (r : Row_of-FlatSelect n) → all_constant (choices (fold_selects Judged JudgedSelect (judge_step S) judge_choice r)) ≡ true →
        GoodChoices (fold_selects Judged JudgedSelect (judge_step S) judge_choice r) ≡ true →
        fold_selects Judged JudgedSelect (judge_step S) judge_choice r ≡ fold_selects Judged JudgedSelect (judge_step []) judge_choice r
    alike-selects end_of-FlatSelect k g = refl
    alike-selects (more_of-FlatSelect x xs) k g =
        two-same (λ i is. i ∷ is) (alike-select x (and-left _ _ k) (and-left _ _ g)) (alike-selects xs (and-right _ _ k) (and-right _ _ g))

  pub constant-alike : (x : FlatExpr) → (judge S x).reading.constant ≡ true → (judge S x).good ≡ true → judge S x ≡ judge [] x
  unfolding judge
  constant-alike x k g = alike x k g
