-- The first node of an expression, and the names of its nodes where nothing is wrong with them.
use Rattle.std.proofs.Common.{◌≡◌, ℕ, ◌≤◌, arith, Bool, true, false, not, ◌||◌, List, [], ◌∷◌, ◌++◌, ap, ◌∙◌, sym, subst, refl, flat_map, Option, Some}
use Rattle.std.specs.Prelude.{if◌then◌else◌}
use Rattle.std.specs.List.{All}
use Rattle.std.proofs.lemmas.Bool.Decides.{nat_tests}
use Rattle.std.proofs.lemmas.List.Elements.{All-head, All-tail}
use Rattle.lv_ast.specs.declared.expr.Path.{Path}
use Rattle.lv_ast.specs.declared.expr.Expr.{Expr}
use Rattle.lv_ast.specs.declared.expr.Expr.TheVariants as e
use Rattle.lv_ast.specs.declared.expr.Expr.TheOpen.{Expr-F}
use Rattle.lv_ast.specs.Trees.{fold_exprs, fold_one, fold_selects}
use Rattle.lv_source.specs.Names.{Names, Here}
use Rattle.lv_source.specs.Sites.{Site, Value, Walk, WalkStep, walk_step, walk_select_step, walk, below_sites, first_place}
use Rattle.lv_source.specs.NodeRules.{is_early, is_width, is_node_fault, out_of_range, unknown_name}
use Rattle.lv_source.proofs.Each.{Each, each-join}
use Rattle.lv_const.specs.Answers.{Sound}
use Rattle.lv_const.specs.Faults.{no_value, form_faults, unfixed}
use Rattle.lv_const.proofs.Owns.{site_of}
use Rattle.lv_const.proofs.Stands.{Stands, walk-stands}
use Rattle.lv_const.proofs.Told.{first-empty, second-empty}
use Rattle.lv_resolve.specs.Late.{paths_in}
use Rattle.lv_resolve.proofs.Steady.{path_of, site-paths}

-- ---- the first node

module _ (names : Names) where
  pub root : (x : Expr) → (n : Expr-F Walk WalkStep) × (walk names x ≡ walk_step names n)
  unfolding walk
  root (e.Lit l) = (Expr-F.Lit l, refl)
  root (e.Name' path n ss) = (Expr-F.Name path (fold_selects Walk WalkStep (walk_step names) walk_select_step ss), refl)
  root (e.Un' op n a) = (Expr-F.Un op (fold_one Walk WalkStep (walk_step names) walk_select_step a), refl)
  root (e.Bin' op n a m b) =
      (Expr-F.Bin op (fold_one Walk WalkStep (walk_step names) walk_select_step a) (fold_one Walk WalkStep (walk_step names) walk_select_step b), refl)
  root (e.Div' n a m b) =
      (Expr-F.Div (fold_one Walk WalkStep (walk_step names) walk_select_step a) (fold_one Walk WalkStep (walk_step names) walk_select_step b), refl)
  root (e.Rem' n a m b) =
      (Expr-F.Rem (fold_one Walk WalkStep (walk_step names) walk_select_step a) (fold_one Walk WalkStep (walk_step names) walk_select_step b), refl)
  root (e.Cond' n c m a k b) = (
    Expr-F.Cond (fold_one Walk WalkStep (walk_step names) walk_select_step c) (fold_one Walk WalkStep (walk_step names) walk_select_step a)
        (fold_one Walk WalkStep (walk_step names) walk_select_step b),
    refl,
  )
  root (e.Cat' n es) = (Expr-F.Cat (fold_exprs Walk WalkStep (walk_step names) walk_select_step es), refl)
  root (e.Rep' n a m es) =
      (Expr-F.Rep (fold_one Walk WalkStep (walk_step names) walk_select_step a) (fold_exprs Walk WalkStep (walk_step names) walk_select_step es), refl)
  root (e.Cast' signed n a) = (Expr-F.Cast signed (fold_one Walk WalkStep (walk_step names) walk_select_step a), refl)

-- ---- its width

ranged : (w k : Bool) (p : ℕ) → (if not w || k then p ∷ [] else []) ≡ [] → w ≡ true
ranged true k p h = refl
ranged false k p h = cc

at-least : (w : ℕ) → is_width w ≡ true → 1 ≤ w
at-least w h = grind (arith, nat_tests)

module _ (early : Path → Bool) where
  abbrev HasWidth : Walk → Option ℕ → ℕ → Bool → Type 0
  HasWidth w fixed W T = flat_map (form_faults early) (w.sites Value fixed W T) ≡ [] → 1 ≤ w.shown.reading.meaning.width

  step-width : (names : Names) (n : Expr-F Walk WalkStep) (fixed : Option ℕ) (W : ℕ) (T : Bool) → HasWidth (walk_step names n) fixed W T
  step-width names n fixed W T h =
      let s : Site = site_of names n Value fixed W T in
      let f : form_faults early s ≡ [] = first-empty (form_faults early s) (flat_map (form_faults early) (below_sites n Value fixed W T)) h in
      let r : out_of_range s ≡ [] = second-empty ((no_value early s ++ unknown_name s) ++ unfixed s) (out_of_range s) f in
      at-least (walk_step names n).shown.reading.meaning.width (ranged (is_width s.shown.reading.meaning.width) (is_node_fault s) (first_place s.shown) r)

  -- an expression without a fault has a bit
  pub has-width : (names : Names) (x : Expr) (fixed : Option ℕ) (W : ℕ) (T : Bool) → flat_map (form_faults early) ((walk names x).sites Value fixed W T) ≡ [] →
      1 ≤ (walk names x).shown.reading.meaning.width
  has-width names x fixed W T =
      let r : (n : Expr-F Walk WalkStep) × (walk names x ≡ walk_step names n) = root names x in
      subst (λ w. HasWidth w fixed W T) (sym r.1) (step-width names r.0 fixed W T)

-- ---- its names

valued : (b : Bool) (p : ℕ) → (if b then [] else p ∷ []) ≡ [] → b ≡ true
valued true p h = refl
valued false p h = cc

module _ (here : Here) where
  abbrev pub IsEarly : Path → Type 0
  IsEarly p = is_early (here.early p) (here.names p) ≡ true

  at-site : (s : Site) → s.names ≡ here.names → no_value here.early s ≡ [] → Each IsEarly (path_of s)
  at-site s n h = elim s.node as (λ m. no_value here.early (record s { node = m }) ≡ [] → Each IsEarly (path_of (record s { node = m }))) [
    | Expr-F.Lit l ↦ λ k. tt
    | Expr-F.Name p ss ↦ λ k. (ap (λ g. is_early (here.early p) (g p)) (sym n) ∙ valued (is_early (here.early p) (s.names p)) p.place k, tt)
    | Expr-F.Un op a ↦ λ k. tt
    | Expr-F.Bin op a b ↦ λ k. tt
    | Expr-F.Div a b ↦ λ k. tt
    | Expr-F.Rem a b ↦ λ k. tt
    | Expr-F.Cond c a b ↦ λ k. tt
    | Expr-F.Cat rs ↦ λ k. tt
    | Expr-F.Rep m rs ↦ λ k. tt
    | Expr-F.Cast signed a ↦ λ k. tt
  ] h

  at-sites : (ss : List Site) → All (Stands here.names) ss → flat_map (form_faults here.early) ss ≡ [] → Each IsEarly (flat_map path_of ss)
  at-sites [] a h = tt
  at-sites (s ∷ ss) a h =
      let f : form_faults here.early s ≡ [] = first-empty (form_faults here.early s) (flat_map (form_faults here.early) ss) h in
      let n : no_value here.early s ≡ [] = first-empty (no_value here.early s) (unknown_name s)
      (first-empty (no_value here.early s ++ unknown_name s) (unfixed s) (first-empty ((no_value here.early s ++ unknown_name s) ++ unfixed s) (out_of_range s) f)) in
      each-join IsEarly (path_of s) (flat_map path_of ss) (at-site s (All-head (Stands here.names) s ss a).named n)
      (at-sites ss (All-tail (Stands here.names) s ss a) (second-empty (form_faults here.early s) (flat_map (form_faults here.early) ss) h))

  -- all names of an expression without a fault are constants that are declared before
  pub all-early : (x : Expr) (first W : ℕ) (T : Bool) → Sound here.early ((walk here.names x).sites Value (Some first) W T) → Each IsEarly (paths_in x)
  all-early x first W T h =
      subst (Each IsEarly) (site-paths here.names x Value (Some first) W T)
      (at-sites ((walk here.names x).sites Value (Some first) W T) (walk-stands here.names x first W T) h.none)
