-- All nodes of an expression in a constant position have its names, and stand in a constant position.
use Rattle.std.proofs.Common.{◌≡◌, ℕ, Bool, true, false, List, [], ◌++◌, refl, flat_map, Some, if◌then◌else◌}
use Rattle.std.specs.List.{All}
use Rattle.std.proofs.lemmas.List.Elements.{All-nil, All-cons, All-append}
use Rattle.lv_bits.specs.Values.{keeps_width, is_apart}
use Rattle.lv_ast.specs.declared.expr.Expr.{Expr, Row_of-Expr, end_of-Expr, more_of-Expr, Row_of-Select, end_of-Select, more_of-Select}
use Rattle.lv_ast.specs.declared.expr.Expr.TheVariants as e
use Rattle.lv_ast.specs.declared.expr.Expr.TheOpen.{Expr-F}
use Rattle.lv_ast.specs.declared.expr.Select.{Select}
use Rattle.lv_ast.specs.declared.expr.Select.TheVariants as s
use Rattle.lv_ast.specs.Trees.{fold_expr, fold_exprs, fold_one, fold_select, fold_selects}
use Rattle.lv_source.specs.Names.{Names}
use Rattle.lv_source.specs.Sites.{Site, Role, Value, Walk, WalkStep, walk_step, walk_select_step, walk, own_sites, fixed_sites, index_sites, step_sites, below_sites, is_driven, joined_role, first_place}
use Rattle.lv_const.proofs.Owns.{site_of}

pub record Stands (names : Names) (s : Site) : Type 0 where
  pub named : s.names ≡ names
  pub first : ℕ
  pub fixed : s.fixed ≡ Some first

module _ (names : Names) where
  -- each of them, in a record that stays folded
  pub record Each (ss : List Site) : Type 0 where
    pub each : All (Stands names) ss

  none : Each []
  none = record { each = All-nil (Stands names) }

  record AllStand (w : Walk) : Type 0 where
    at : (role : Role) (first W : ℕ) (T : Bool) → Each (w.sites role (Some first) W T)

  record StepStands (s : WalkStep) : Type 0 where
    at : (constant : Bool) (first : ℕ) → Each (step_sites constant (Some first) s)

  both : (xs ys : List Site) → Each xs → Each ys → Each (xs ++ ys)
  both xs ys h k = record { each = All-append (Stands names) xs ys h.each k.each }

  either : (b : Bool) (xs ys : List Site) → Each xs → Each ys → Each (if b then xs else ys)
  either true xs ys h k = h
  either false xs ys h k = k

  node : (x : Expr-F Walk WalkStep) → ((role : Role) (first W : ℕ) (T : Bool) → Each (below_sites x role (Some first) W T)) → AllStand (walk_step names x)
  node x h = record {
    at = λ role first W T. record {
      each = All-cons (Stands names) (site_of names x role (Some first) W T) (below_sites x role (Some first) W T)
          (record { named = refl; first = first; fixed = refl }) (h role first W T).each;
    };
  }

  own : (w : Walk) → AllStand w → (role : Role) (first : ℕ) → Each (own_sites role (Some first) w)
  own w h role first = h.at role first w.shown.reading.meaning.width w.shown.reading.meaning.signed

  fixed-all : (w : Walk) → AllStand w → Each (fixed_sites w)
  fixed-all w h = own w h Value (first_place w.shown)

  index-all : (constant : Bool) (w : Walk) → AllStand w → (first : ℕ) → Each (index_sites constant (Some first) w)
  index-all constant w h first = either constant (fixed_sites w) (own_sites Value (Some first) w) (fixed-all w h) (own w h Value first)

  two : (a b : Walk) → AllStand a → AllStand b → (first V W : ℕ) (S T : Bool) → Each (a.sites Value (Some first) V S ++ b.sites Value (Some first) W T)
  two a b h k first V W S T = both (a.sites Value (Some first) V S) (b.sites Value (Some first) W T) (h.at Value first V S) (k.at Value first W T)

  mutual
    fold-stands : (x : Expr) → AllStand (fold_expr Walk WalkStep (walk_step names) walk_select_step x)
    fold-stands (e.Lit l) = node (Expr-F.Lit l) (λ role first W T. none)
    fold-stands (e.Name' path n ss) = node (Expr-F.Name path (fold_selects Walk WalkStep (walk_step names) walk_select_step ss))
        (λ role first W T. fold-selects ss (is_driven role) first)
    fold-stands (e.Un' op n a) = node (Expr-F.Un op (fold_one Walk WalkStep (walk_step names) walk_select_step a))
        (λ role first W T. either (keeps_width op) _ _ ((fold-one a).at Value first W T) (own _ (fold-one a) Value first))
    fold-stands (e.Bin' op n a m b) = node (Expr-F.Bin op (fold_one Walk WalkStep (walk_step names) walk_select_step a)
        (fold_one Walk WalkStep (walk_step names) walk_select_step b))
        (λ role first W T. either (keeps_width op) _ _
        (both _ _ ((fold-one a).at Value first W T) (either (is_apart op) _ _ (own _ (fold-one b) Value first) ((fold-one b).at Value first W T)))
        (either (is_apart op) _ _ (both _ _ (own _ (fold-one a) Value first) (own _ (fold-one b) Value first))
        (two _ _ (fold-one a) (fold-one b) first _ _ _ _)))
    fold-stands (e.Div' n a m b) = node (Expr-F.Div (fold_one Walk WalkStep (walk_step names) walk_select_step a)
        (fold_one Walk WalkStep (walk_step names) walk_select_step b))
        (λ role first W T. two _ _ (fold-one a) (fold-one b) first W W T T)
    fold-stands (e.Rem' n a m b) = node (Expr-F.Rem (fold_one Walk WalkStep (walk_step names) walk_select_step a)
        (fold_one Walk WalkStep (walk_step names) walk_select_step b))
        (λ role first W T. two _ _ (fold-one a) (fold-one b) first W W T T)
    fold-stands (e.Cond' n c m a k b) = node (Expr-F.Cond (fold_one Walk WalkStep (walk_step names) walk_select_step c)
        (fold_one Walk WalkStep (walk_step names) walk_select_step a)
        (fold_one Walk WalkStep (walk_step names) walk_select_step b))
        (λ role first W T. both _ _ (both _ _ (own _ (fold-one c) Value first) ((fold-one a).at Value first W T)) ((fold-one b).at Value first W T))
    fold-stands (e.Cat' n es) = node (Expr-F.Cat (fold_exprs Walk WalkStep (walk_step names) walk_select_step es))
        (λ role first W T. fold-all es (joined_role role) first)
    fold-stands (e.Rep' n a m es) = node (Expr-F.Rep (fold_one Walk WalkStep (walk_step names) walk_select_step a)
        (fold_exprs Walk WalkStep (walk_step names) walk_select_step es))
        (λ role first W T. both _ _ (fixed-all _ (fold-one a)) (fold-all es _ first))
    fold-stands (e.Cast' signed n a) = node (Expr-F.Cast signed (fold_one Walk WalkStep (walk_step names) walk_select_step a))
        (λ role first W T. own _ (fold-one a) Value first)

    fold-one : {n : _} (r : Row_of-Expr n) → AllStand (fold_one Walk WalkStep (walk_step names) walk_select_step r)
    fold-one end_of-Expr = node (Expr-F.Cat []) (λ role first W T. none)
    fold-one (more_of-Expr x xs) = fold-stands x

    fold-all : {n : _} (r : Row_of-Expr n) (role : Role) (first : ℕ) →
        Each (flat_map (own_sites role (Some first)) (fold_exprs Walk WalkStep (walk_step names) walk_select_step r))
    fold-all end_of-Expr role first = none
    fold-all (more_of-Expr x xs) role first = both _ _ (own _ (fold-stands x) role first) (fold-all xs role first)

    fold-select : (x : Select) → StepStands (fold_select Walk WalkStep (walk_step names) walk_select_step x)
    fold-select (s.Bit' n a) = record { at = λ constant first. index-all constant _ (fold-one a) first }
    fold-select (s.Part' n a m b) = record { at = λ constant first. both _ _ (fixed-all _ (fold-one a)) (fixed-all _ (fold-one b)) }
    fold-select (s.Up' n a m b) = record { at = λ constant first. both _ _ (index-all constant _ (fold-one a) first) (fixed-all _ (fold-one b)) }
    fold-select (s.Down' n a m b) = record { at = λ constant first. both _ _ (index-all constant _ (fold-one a) first) (fixed-all _ (fold-one b)) }

    fold-selects : {n : _} (r : Row_of-Select n) (constant : Bool) (first : ℕ) →
        Each (flat_map (step_sites constant (Some first)) (fold_selects Walk WalkStep (walk_step names) walk_select_step r))
    fold-selects end_of-Select constant first = none
    fold-selects (more_of-Select x xs) constant first = both _ _ ((fold-select x).at constant first) (fold-selects xs constant first)

  pub walk-stands : (x : Expr) (first W : ℕ) (T : Bool) → All (Stands names) ((walk names x).sites Value (Some first) W T)
  unfolding walk
  walk-stands x first W T = ((fold-stands x).at Value first W T).each
