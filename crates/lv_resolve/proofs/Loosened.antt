-- What is told of an expression in no constant position is told of it in one.
use Rattle.std.proofs.Common.{ℕ, Bool, true, false, if◌then◌else◌, List, [], ◌∷◌, ◌++◌, sym, flat_map, map, inl, inr, None, Some}
use Rattle.std.specs.List.{Contains}
use Rattle.std.proofs.lemmas.Grind.{flat_map-append}
use Rattle.std.proofs.lemmas.List.Elements.{Contains-append_left, Contains-append_right, Contains-append_cases}
use Rattle.lv_bits.specs.Values.{keeps_width, is_apart}
use Rattle.lv_ast.specs.declared.expr.Expr.{Expr, Row_of-Expr, end_of-Expr, more_of-Expr, Row_of-Select, end_of-Select, more_of-Select}
use Rattle.lv_ast.specs.declared.expr.Expr.TheVariants as e
use Rattle.lv_ast.specs.declared.expr.Expr.TheOpen.{Expr-F, Select-F}
use Rattle.lv_ast.specs.declared.expr.Select.{Select}
use Rattle.lv_ast.specs.declared.expr.Select.TheVariants as s
use Rattle.lv_ast.specs.Trees.{fold_expr, fold_exprs, fold_one, fold_select, fold_selects}
use Rattle.lv_source.specs.Names.{Names, Here}
use Rattle.lv_source.specs.Sites.{Site, Role, Value, Joined, Walk, WalkStep, walk_step, walk_select_step, walk_select, own_sites, fixed_sites, index_sites, step_sites, below_sites, is_driven, joined_role, first_place}
use Rattle.lv_source.specs.NodeRules.{unknown_name, zero_divisor, out_of_range}
use Rattle.lv_const.proofs.Owns.{site_of}
use Rattle.lv_resolve.specs.declared.error.ResolveError.{ResolveError}
use Rattle.lv_resolve.specs.declared.error.ResolveError.TheVariants as x
use Rattle.lv_resolve.specs.Forms.{Told, Tells, unfixed_at}
use Rattle.lv_resolve.proofs.Covers.{in-same, nowhere-in}

module _ (here : Here) where
  abbrev names : Names
  names = here.names

  -- by what is told
  abbrev kind : ResolveError → Site → List ℕ
  kind (x.UnknownName p) = unknown_name
  kind (x.NotConstant p) = unfixed_at here
  kind (x.ZeroDivisor p) = zero_divisor
  kind (x.Range p) = out_of_range
  kind x.NoMemory = λ z. []

  pub record Looser (ss ts : List Site) : Type 0 where
    pub more : (k : ResolveError) (p : ℕ) → Contains (flat_map (kind k) ss) p → Contains (flat_map (kind k) ts) p

  same : (ss : List Site) → Looser ss ss
  same ss = record { more = λ k p h. h }

  both : (ss ts us vs : List Site) → Looser ss us → Looser ts vs → Looser (ss ++ ts) (us ++ vs)
  both ss ts us vs h g = record {
    more = λ k p c. in-same _ _ p (sym (flat_map-append (kind k) us vs))
        (elim (Contains-append_cases (flat_map (kind k) ss) (flat_map (kind k) ts) p (in-same _ _ p (flat_map-append (kind k) ss ts) c)) [
          | inl m ↦ Contains-append_left (flat_map (kind k) us) (flat_map (kind k) vs) p (h.more k p m)
          | inr m ↦ Contains-append_right (flat_map (kind k) us) (flat_map (kind k) vs) p (g.more k p m)
        ]);
  }

  either : (b : Bool) (ss ts us vs : List Site) → Looser ss us → Looser ts vs → Looser (if b then ss else ts) (if b then us else vs)
  either true ss ts us vs h g = h
  either false ss ts us vs h g = g

  record AllLoose (w : Walk) : Type 0 where
    at : (role : Role) (first W : ℕ) (T : Bool) → Looser (w.sites role None W T) (w.sites role (Some first) W T)

  record StepLoose (w : WalkStep) : Type 0 where
    at : (constant : Bool) (first : ℕ) → Looser (step_sites constant None w) (step_sites constant (Some first) w)

  -- the node itself
  one : (n : Expr-F Walk WalkStep) (role : Role) (first W : ℕ) (T : Bool) (k : ResolveError) (p : ℕ) → Contains (kind k (site_of names n role None W T)) p →
      Contains (kind k (site_of names n role (Some first) W T)) p
  one n role first W T (x.UnknownName q) p h = h
  one n role first W T (x.ZeroDivisor q) p h = h
  one n role first W T (x.Range q) p h = h
  one n role first W T x.NoMemory p h = h
  one (Expr-F.Lit l) role first W T (x.NotConstant q) p h = h
  one (Expr-F.Name path ss) role first W T (x.NotConstant q) p h = absurd (nowhere-in p h)
  one (Expr-F.Un op a) role first W T (x.NotConstant q) p h = h
  one (Expr-F.Bin op a b) role first W T (x.NotConstant q) p h = h
  one (Expr-F.Div a b) role first W T (x.NotConstant q) p h = h
  one (Expr-F.Rem a b) role first W T (x.NotConstant q) p h = h
  one (Expr-F.Cond c a b) role first W T (x.NotConstant q) p h = h
  one (Expr-F.Cat rs) role first W T (x.NotConstant q) p h = h
  one (Expr-F.Rep n rs) role first W T (x.NotConstant q) p h = h
  one (Expr-F.Cast signed a) role first W T (x.NotConstant q) p h = h

  cons : (a b : Site) (ss ts : List Site) → ((k : ResolveError) (p : ℕ) → Contains (kind k a) p → Contains (kind k b) p) → Looser ss ts → Looser (a ∷ ss) (b ∷ ts)
  cons a b ss ts h g = record {
    more = λ k p c. elim (Contains-append_cases (kind k a) (flat_map (kind k) ss) p c) [
      | inl m ↦ Contains-append_left (kind k b) (flat_map (kind k) ts) p (h k p m)
      | inr m ↦ Contains-append_right (kind k b) (flat_map (kind k) ts) p (g.more k p m)
    ];
  }

  node : (n : Expr-F Walk WalkStep) → ((role : Role) (first W : ℕ) (T : Bool) → Looser (below_sites n role None W T) (below_sites n role (Some first) W T)) →
      AllLoose (walk_step names n)
  node n h = record {
    at = λ role first W T. cons (site_of names n role None W T) (site_of names n role (Some first) W T) (below_sites n role None W T) (below_sites n role (Some first) W T)
        (one n role first W T) (h role first W T);
  }

  own : (w : Walk) → AllLoose w → (role : Role) (first : ℕ) → Looser (own_sites role None w) (own_sites role (Some first) w)
  own w h role first = h.at role first w.shown.reading.meaning.width w.shown.reading.meaning.signed

  index : (constant : Bool) (w : Walk) → AllLoose w → (first : ℕ) → Looser (index_sites constant None w) (index_sites constant (Some first) w)
  index true w h first = same (fixed_sites w)
  index false w h first = own w h Value first

  two : (a b : Walk) → AllLoose a → AllLoose b → (first V W : ℕ) (S T : Bool) →
      Looser (a.sites Value None V S ++ b.sites Value None W T) (a.sites Value (Some first) V S ++ b.sites Value (Some first) W T)
  two a b h k first V W S T = both _ _ _ _ (h.at Value first V S) (k.at Value first W T)

  rep : (n : Walk) (ws : List Walk) → ((role : Role) (first : ℕ) → Looser (flat_map (own_sites role None) ws) (flat_map (own_sites role (Some first)) ws)) →
      AllLoose (walk_step names (Expr-F.Rep n ws))
  rep n ws h = node (Expr-F.Rep n ws) (λ role first W T. both (fixed_sites n) (flat_map (own_sites Joined None) ws) (fixed_sites n)
      (flat_map (own_sites Joined (Some first)) ws) (same (fixed_sites n)) (h Joined first))

  up : (a b : Walk) → AllLoose a → StepLoose (Select-F.Up a b)
  up a b h = record {
    at = λ constant first. both (index_sites constant None a) (fixed_sites b) (index_sites constant (Some first) a) (fixed_sites b)
        (index constant a h first) (same (fixed_sites b));
  }

  down : (a b : Walk) → AllLoose a → StepLoose (Select-F.Down a b)
  down a b h = record {
    at = λ constant first. both (index_sites constant None a) (fixed_sites b) (index_sites constant (Some first) a) (fixed_sites b)
        (index constant a h first) (same (fixed_sites b));
  }

  part : (a b : Walk) → StepLoose (Select-F.Part a b)
  part a b = record { at = λ constant first. same (fixed_sites a ++ fixed_sites b) }

  indexed : (a b : Walk) → AllLoose a → Looser (index_sites false None a ++ fixed_sites b) (index_sites true None a ++ fixed_sites b)
  indexed a b h = both (index_sites false None a) (fixed_sites b) (index_sites true None a) (fixed_sites b) (own a h Value (first_place a.shown)) (same (fixed_sites b))

  mutual
    fold-loose : (z : Expr) → AllLoose (fold_expr Walk WalkStep (walk_step names) walk_select_step z)
    fold-loose (e.Lit l) = node (Expr-F.Lit l) (λ role first W T. same [])
    fold-loose (e.Name' path n ss) = node (Expr-F.Name path (fold_selects Walk WalkStep (walk_step names) walk_select_step ss))
        (λ role first W T. fold-steps ss (is_driven role) first)
    fold-loose (e.Un' op n a) = node (Expr-F.Un op (fold_one Walk WalkStep (walk_step names) walk_select_step a))
        (λ role first W T. either (keeps_width op) _ _ _ _ ((fold-one a).at Value first W T) (own _ (fold-one a) Value first))
    fold-loose (e.Bin' op n a m b) = node (Expr-F.Bin op (fold_one Walk WalkStep (walk_step names) walk_select_step a)
        (fold_one Walk WalkStep (walk_step names) walk_select_step b))
        (λ role first W T. either (keeps_width op) _ _ _ _
        (both _ _ _ _ ((fold-one a).at Value first W T) (either (is_apart op) _ _ _ _ (own _ (fold-one b) Value first) ((fold-one b).at Value first W T)))
        (either (is_apart op) _ _ _ _ (both _ _ _ _ (own _ (fold-one a) Value first) (own _ (fold-one b) Value first))
        (two _ _ (fold-one a) (fold-one b) first _ _ _ _)))
    fold-loose (e.Div' n a m b) = node (Expr-F.Div (fold_one Walk WalkStep (walk_step names) walk_select_step a)
        (fold_one Walk WalkStep (walk_step names) walk_select_step b)) (λ role first W T. two _ _ (fold-one a) (fold-one b) first W W T T)
    fold-loose (e.Rem' n a m b) = node (Expr-F.Rem (fold_one Walk WalkStep (walk_step names) walk_select_step a)
        (fold_one Walk WalkStep (walk_step names) walk_select_step b)) (λ role first W T. two _ _ (fold-one a) (fold-one b) first W W T T)
    fold-loose (e.Cond' n c m a k b) = node (Expr-F.Cond (fold_one Walk WalkStep (walk_step names) walk_select_step c)
        (fold_one Walk WalkStep (walk_step names) walk_select_step a) (fold_one Walk WalkStep (walk_step names) walk_select_step b))
        (λ role first W T. both _ _ _ _ (both _ _ _ _ (own _ (fold-one c) Value first) ((fold-one a).at Value first W T)) ((fold-one b).at Value first W T))
    fold-loose (e.Cat' n es) = node (Expr-F.Cat (fold_exprs Walk WalkStep (walk_step names) walk_select_step es))
        (λ role first W T. fold-all es (joined_role role) first)
    fold-loose (e.Rep' n a m es) = rep (fold_one Walk WalkStep (walk_step names) walk_select_step a) (fold_exprs Walk WalkStep (walk_step names) walk_select_step es)
        (λ role first. fold-all es role first)
    fold-loose (e.Cast' signed n a) = node (Expr-F.Cast signed (fold_one Walk WalkStep (walk_step names) walk_select_step a))
        (λ role first W T. own _ (fold-one a) Value first)

    fold-one : {n : _} (r : Row_of-Expr n) → AllLoose (fold_one Walk WalkStep (walk_step names) walk_select_step r)
    fold-one end_of-Expr = node (Expr-F.Cat []) (λ role first W T. same [])
    fold-one (more_of-Expr z zs) = fold-loose z

    fold-all : {n : _} (r : Row_of-Expr n) (role : Role) (first : ℕ) → Looser (flat_map (own_sites role None) (fold_exprs Walk WalkStep (walk_step names) walk_select_step r))
        (flat_map (own_sites role (Some first)) (fold_exprs Walk WalkStep (walk_step names) walk_select_step r))
    fold-all end_of-Expr role first = same []
    fold-all (more_of-Expr z zs) role first = both _ _ _ _ (own _ (fold-loose z) role first) (fold-all zs role first)

    fold-step : (z : Select) → StepLoose (fold_select Walk WalkStep (walk_step names) walk_select_step z)
    fold-step (s.Bit' n a) = record { at = λ constant first. index constant _ (fold-one a) first }
    fold-step (s.Part' n a m b) = part (fold_one Walk WalkStep (walk_step names) walk_select_step a) (fold_one Walk WalkStep (walk_step names) walk_select_step b)
    fold-step (s.Up' n a m b) = up (fold_one Walk WalkStep (walk_step names) walk_select_step a) (fold_one Walk WalkStep (walk_step names) walk_select_step b) (fold-one a)
    fold-step (s.Down' n a m b) = down (fold_one Walk WalkStep (walk_step names) walk_select_step a) (fold_one Walk WalkStep (walk_step names) walk_select_step b) (fold-one a)

    fold-steps : {n : _} (r : Row_of-Select n) (constant : Bool) (first : ℕ) →
        Looser (flat_map (step_sites constant None) (fold_selects Walk WalkStep (walk_step names) walk_select_step r))
        (flat_map (step_sites constant (Some first)) (fold_selects Walk WalkStep (walk_step names) walk_select_step r))
    fold-steps end_of-Select constant first = same []
    fold-steps (more_of-Select z zs) constant first = both _ _ _ _ ((fold-step z).at constant first) (fold-steps zs constant first)

  -- indices that have to be constant, and those that don't
  mutual-steps : (z : Select) → Looser (step_sites false None (walk_select names z)) (step_sites true None (walk_select names z))
  unfolding walk_select
  mutual-steps (s.Bit' n a) = own (fold_one Walk WalkStep (walk_step names) walk_select_step a) (fold-one a) Value
      (first_place (fold_one Walk WalkStep (walk_step names) walk_select_step a).shown)
  mutual-steps (s.Part' n a m b) = same (fixed_sites (fold_one Walk WalkStep (walk_step names) walk_select_step a) ++
      fixed_sites (fold_one Walk WalkStep (walk_step names) walk_select_step b))
  mutual-steps (s.Up' n a m b) = indexed (fold_one Walk WalkStep (walk_step names) walk_select_step a) (fold_one Walk WalkStep (walk_step names) walk_select_step b) (fold-one a)
  mutual-steps (s.Down' n a m b) = indexed (fold_one Walk WalkStep (walk_step names) walk_select_step a) (fold_one Walk WalkStep (walk_step names) walk_select_step b) (fold-one a)

  all-steps : (ss : List Select) → Looser (flat_map (step_sites false None) (map (walk_select names) ss)) (flat_map (step_sites true None) (map (walk_select names) ss))
  all-steps [] = same []
  all-steps (z ∷ ss) = both (step_sites false None (walk_select names z)) (flat_map (step_sites false None) (map (walk_select names) ss))
      (step_sites true None (walk_select names z)) (flat_map (step_sites true None) (map (walk_select names) ss)) (mutual-steps z) (all-steps ss)

  tells-steps : (ss ts : List Site) (y : ResolveError) → Looser ss ts → Tells here ss y → Tells here ts y
  tells-steps ss ts (x.UnknownName p) h k = h.more (x.UnknownName p) p k
  tells-steps ss ts (x.NotConstant p) h k = h.more (x.NotConstant p) p k
  tells-steps ss ts (x.ZeroDivisor p) h k = h.more (x.ZeroDivisor p) p k
  tells-steps ss ts (x.Range p) h k = h.more (x.Range p) p k
  tells-steps ss ts x.NoMemory h k = k

  pub told-steps : (driven : Bool) (ss : List Select) (y : ResolveError) → Told here (flat_map (step_sites false None) (map (walk_select names) ss)) y →
      Told here (flat_map (step_sites driven None) (map (walk_select names) ss)) y
  told-steps true ss y h = record { found = tells-steps _ _ y (all-steps ss) h.found }
  told-steps false ss y h = h
