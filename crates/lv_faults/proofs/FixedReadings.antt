-- An expression in a constant position of which neither NotConstant nor UnknownName is told is constant, and so are the selects of a target that is driven.
use Rattle.std.proofs.Common.{◌≡◌, inl, inr, ℕ, Bool, true, false, ◌&&◌, ◌||◌, not, List, [], ◌∷◌, ◌++◌, map, refl, sym, ap, ◌∙◌, Option, Some, None}
use Rattle.std.specs.Prelude.{flat_map, if◌then◌else◌}
use Rattle.std.specs.List.{list_all}
use Rattle.std.proofs.lemmas.List.Folds.{list_all-append}
use Rattle.lv_bits.specs.declared.op.Op.{Op}
use Rattle.lv_bits.specs.Values.{keeps_width, is_apart}
use Rattle.lv_ast.specs.declared.expr.Expr.{Expr, Row_of-Expr, end_of-Expr, more_of-Expr, Row_of-Select, end_of-Select, more_of-Select}
use Rattle.lv_ast.specs.declared.expr.Expr.TheVariants as e
use Rattle.lv_ast.specs.declared.expr.Expr.TheOpen.{Expr-F, Select-F}
use Rattle.lv_ast.specs.declared.expr.Select.{Select}
use Rattle.lv_ast.specs.declared.expr.Select.TheVariants as s
use Rattle.lv_ast.specs.declared.stmt.Target.{Target, Row_of-Target, end_of-Target, more_of-Target}
use Rattle.lv_ast.specs.declared.stmt.Target.TheVariants as t
use Rattle.lv_ast.specs.Trees.{fold_expr, fold_exprs, fold_one, fold_select, fold_selects, fold_target, fold_targets}
use Rattle.lv_source.specs.Names.{Names, Declared, known, is_constant_sort}
use Rattle.lv_source.specs.Meaning.{Reading, Choice, parts_of, all_constant, read_step}
use Rattle.lv_source.specs.Effect.{Piece, piece_step, pieces}
use Rattle.lv_source.specs.NodeRules.{is_name_fault, is_early, is_unreadable, can_be_read, is_array_fault, is_written}
use Rattle.lv_source.specs.Parts.{Sink, join_targets, read_choice, sink_step, as_target}
use Rattle.lv_source.specs.Sites.{Walk, WalkStep, Step, Role, Value, Joined, Written, Driven, DrivenJoined, Site, walk, walk_step, walk_select, walk_select_step, own_sites, fixed_sites, index_sites, step_sites, below_sites, joined_role, is_driven, greater_sites, first_place, step_shown, step_choice, target_site_step, target_sites}
use Rattle.lv_source.proofs.Bounds.{IsFixed, Fixed}
use Rattle.lv_source.proofs.Each.{Each}
use Rattle.lv_source.proofs.Induction.{Below, Inside, of_expr, of_select, of_selects}
use Rattle.lv_source.proofs.Refused.{in-left, in-right}
use Rattle.lv_source.proofs.Tests.{and-both}
use Rattle.lv_resolve.proofs.TargetLaws.{chosen-reads}

by_tests : (c a w k early : Bool) (place first : ℕ) → (if not c || a || w then place ∷ [] else []) ≡ [] →
    (if k && early || not c then [] else place ∷ first ∷ []) ≡ [] → k ≡ true
by_tests false a w k early place first h j = cc
by_tests true a w false early place first h j = cc
by_tests true a w true early place first h j = refl

constant_name : (role : Role) (ss : List Step) (early : Bool) (o : Option Declared) (place first : ℕ) → (if is_name_fault role o ss then place ∷ [] else []) ≡ [] →
    (if is_early early o || is_unreadable o then [] else place ∷ first ∷ []) ≡ [] → is_constant_sort (known o).sort ≡ true
constant_name role ss early None place first h k = cc
constant_name role ss early (Some d) place first h k =
    by_tests (can_be_read d.sort) (is_array_fault d.array ss) (is_written role && is_constant_sort d.sort) (is_constant_sort d.sort) early place first h k

left_of : (xs ys : List Site) → Fixed (xs ++ ys) → Fixed xs
left_of xs ys h x i = h x (in-left x xs ys i)

right_of : (xs ys : List Site) → Fixed (xs ++ ys) → Fixed ys
right_of xs ys h x i = h x (in-right x xs ys i)

rest_of : (x : Site) (xs : List Site) → Fixed (x ∷ xs) → Fixed xs
rest_of x xs h y i = h y (inr i)

if_fixed : {R : Type 0} (b : Bool) (xs ys : List Site) → Fixed (if b then xs else ys) → (Fixed xs → R) → (Fixed ys → R) → R
if_fixed true xs ys h f g = f h
if_fixed false xs ys h f g = g h

two : {A B C : Type 0} (f : A → B → C) (x y : A) (u v : B) → x ≡ y → u ≡ v → f x u ≡ f y v
two f x y u v h k = ap (λ z. f z u) h ∙ ap (λ z. f y z) k

-- ---- what stands in a constant position

IsConst : Walk → Type 0
IsConst w = (role : Role) (f W : ℕ) (T : Bool) → Fixed (w.sites role (Some f) W T) → w.shown.reading.constant ≡ true

abbrev ConstStep : WalkStep → Type 0
ConstStep c = Inside IsConst c

own_const : (role : Role) (f : ℕ) (w : Walk) → IsConst w → Fixed (own_sites role (Some f) w) → w.shown.reading.constant ≡ true
unfolding IsConst
own_const role f w h k = h role f w.shown.reading.meaning.width w.shown.reading.meaning.signed k

alone_const : (w : Walk) → IsConst w → Fixed (fixed_sites w) → w.shown.reading.constant ≡ true
alone_const w h k = own_const Value (first_place w.shown) w h k

-- its indices are in a constant position, or it is
abbrev IsPlaced : Bool → Option ℕ → Type 0
IsPlaced true o = Unit {0}
IsPlaced false None = ⊥
IsPlaced false (Some f) = Unit {0}

index_const : (constant : Bool) (o : Option ℕ) (w : Walk) → IsPlaced constant o → IsConst w → Fixed (index_sites constant o w) → w.shown.reading.constant ≡ true
index_const true o w p h k = alone_const w h k
index_const false None w p h k = absurd p
index_const false (Some f) w p h k = own_const Value f w h k

one_const : (r : Reading) → r.constant ≡ true → list_all (λ (r : Reading). r.constant) (r ∷ []) ≡ true
one_const r h = and-both r.constant true h refl

both_const : (r q : Reading) → r.constant ≡ true → q.constant ≡ true → list_all (λ (r : Reading). r.constant) (r ∷ q ∷ []) ≡ true
both_const r q h k = and-both r.constant _ h (one_const q k)

step_const : (constant : Bool) (o : Option ℕ) (c : WalkStep) → IsPlaced constant o → ConstStep c → Fixed (step_sites constant o c) →
    list_all (λ (r : Reading). r.constant) (parts_of (step_choice (step_shown c))) ≡ true
step_const constant o (Select-F.Bit a) p h k = one_const a.shown.reading (index_const constant o a p h k)
step_const constant o (Select-F.Part a b) p h k =
    both_const a.shown.reading b.shown.reading (alone_const a h.0 (left_of (fixed_sites a) (fixed_sites b) k)) (alone_const b h.1 (right_of (fixed_sites a) (fixed_sites b) k))
step_const constant o (Select-F.Up a b) p h k =
    both_const a.shown.reading b.shown.reading (index_const constant o a p h.0 (left_of (index_sites constant o a) (fixed_sites b) k))
    (alone_const b h.1 (right_of (index_sites constant o a) (fixed_sites b) k))
step_const constant o (Select-F.Down a b) p h k =
    both_const a.shown.reading b.shown.reading (index_const constant o a p h.0 (left_of (index_sites constant o a) (fixed_sites b) k))
    (alone_const b h.1 (right_of (index_sites constant o a) (fixed_sites b) k))

steps_const : (constant : Bool) (o : Option ℕ) (cs : List WalkStep) → IsPlaced constant o → Each ConstStep cs → Fixed (flat_map (step_sites constant o) cs) →
    all_constant (map step_choice (map step_shown cs)) ≡ true
steps_const constant o [] p h k = refl
steps_const constant o (c ∷ cs) p h k = and-both _ _
    (step_const constant o c p h.0 (left_of (step_sites constant o c) (flat_map (step_sites constant o) cs) k))
    (steps_const constant o cs p h.1 (right_of (step_sites constant o c) (flat_map (step_sites constant o) cs) k))

all_const : (role : Role) (f : ℕ) (ws : List Walk) → Each IsConst ws → Fixed (flat_map (own_sites role (Some f)) ws) →
    list_all (λ (r : Reading). r.constant) (map (λ r. r.reading) (map (λ (w : Walk). w.shown) ws)) ≡ true
all_const role f [] h k = refl
all_const role f (w ∷ ws) h k = and-both _ _
    (own_const role f w h.0 (left_of (own_sites role (Some f) w) (flat_map (own_sites role (Some f)) ws) k))
    (all_const role f ws h.1 (right_of (own_sites role (Some f) w) (flat_map (own_sites role (Some f)) ws) k))

placed_some : (constant : Bool) (f : ℕ) → IsPlaced constant (Some f)
placed_some true f = tt
placed_some false f = tt

bin_const : (op : Op) (a b : Walk) → IsConst a → IsConst b → (role : Role) (f W : ℕ) (T : Bool) → Fixed (below_sites (Expr-F.Bin op a b) role (Some f) W T) →
    list_all (λ (r : Reading). r.constant) (a.shown.reading ∷ b.shown.reading ∷ []) ≡ true
unfolding IsConst
bin_const op a b h j role f W T k =
    if_fixed (keeps_width op) _ _ k
    (λ k. both_const a.shown.reading b.shown.reading (h Value f W T (left_of (a.sites Value (Some f) W T) _ k))
    (if_fixed (is_apart op) (own_sites Value (Some f) b) (b.sites Value (Some f) W T) (right_of (a.sites Value (Some f) W T) _ k) (λ k. j Value f _ _ k) (λ k. j Value f W T k)))
    (λ k. if_fixed (is_apart op) (own_sites Value (Some f) a ++ own_sites Value (Some f) b) (greater_sites (Some f) a b) k
    (λ k. both_const a.shown.reading b.shown.reading (h Value f _ _ (left_of (own_sites Value (Some f) a) (own_sites Value (Some f) b) k))
    (j Value f _ _ (right_of (own_sites Value (Some f) a) (own_sites Value (Some f) b) k)))
    (λ k. both_const a.shown.reading b.shown.reading (h Value f _ _ (left_of (a.sites Value (Some f) _ _) _ k)) (j Value f _ _ (right_of (a.sites Value (Some f) _ _) _ k))))

module _ (names : Names) where
  node_const : (x : Expr-F Walk WalkStep) → Below IsConst ConstStep x → IsConst (walk_step names x)
  unfolding IsConst
  node_const (Expr-F.Lit l) h role f W T k = refl
  node_const (Expr-F.Name path ss) h role f W T k =
      let here : IsFixed _ = k _ (inl refl) in
      and-both _ _ (constant_name role (map step_shown ss) (here.early path) (names path) path.place f here.known_name here.constant)
      (steps_const (is_driven role) (Some f) ss (placed_some (is_driven role) f) h (rest_of _ (flat_map (step_sites (is_driven role) (Some f)) ss) k))
  node_const (Expr-F.Un op a) h role f W T k =
      one_const a.shown.reading (if_fixed (keeps_width op) (a.sites Value (Some f) W T) (own_sites Value (Some f) a) (rest_of _ _ k) (λ k. h Value f W T k) (λ k. h Value f _ _ k))
  node_const (Expr-F.Bin op a b) h role f W T k = bin_const op a b h.0 h.1 role f W T (rest_of _ (below_sites (Expr-F.Bin op a b) role (Some f) W T) k)
  node_const (Expr-F.Div a b) h role f W T k =
      let all : Fixed (a.sites Value (Some f) W T ++ b.sites Value (Some f) W T) = rest_of _ (a.sites Value (Some f) W T ++ b.sites Value (Some f) W T) k in
      both_const a.shown.reading b.shown.reading (h.0 Value f W T (left_of (a.sites Value (Some f) W T) (b.sites Value (Some f) W T) all))
      (h.1 Value f W T (right_of (a.sites Value (Some f) W T) (b.sites Value (Some f) W T) all))
  node_const (Expr-F.Rem a b) h role f W T k =
      let all : Fixed (a.sites Value (Some f) W T ++ b.sites Value (Some f) W T) = rest_of _ (a.sites Value (Some f) W T ++ b.sites Value (Some f) W T) k in
      both_const a.shown.reading b.shown.reading (h.0 Value f W T (left_of (a.sites Value (Some f) W T) (b.sites Value (Some f) W T) all))
      (h.1 Value f W T (right_of (a.sites Value (Some f) W T) (b.sites Value (Some f) W T) all))
  node_const (Expr-F.Cond c a b) h role f W T k =
      let cs : List Site = own_sites Value (Some f) c in
      let xs : List Site = a.sites Value (Some f) W T in
      let ys : List Site = b.sites Value (Some f) W T in
      let all : Fixed (cs ++ xs ++ ys) = rest_of _ (cs ++ xs ++ ys) k in
      let front : Fixed (cs ++ xs) = left_of (cs ++ xs) ys all in
      and-both _ _ (own_const Value f c h.0 (left_of cs xs front))
      (both_const a.shown.reading b.shown.reading (h.1 Value f W T (right_of cs xs front)) (h.2 Value f W T (right_of (cs ++ xs) ys all)))
  node_const (Expr-F.Cat rs) h role f W T k = all_const (joined_role role) f rs h (rest_of _ (flat_map (own_sites (joined_role role) (Some f)) rs) k)
  node_const (Expr-F.Rep n rs) h role f W T k =
      let all : Fixed (fixed_sites n ++ flat_map (own_sites Joined (Some f)) rs) = rest_of _ (fixed_sites n ++ flat_map (own_sites Joined (Some f)) rs) k in
      and-both _ _ (alone_const n h.0 (left_of (fixed_sites n) _ all)) (all_const Joined f rs h.1 (right_of (fixed_sites n) _ all))
  node_const (Expr-F.Cast signed a) h role f W T k = one_const a.shown.reading (own_const Value f a h (rest_of _ (own_sites Value (Some f) a) k))

  pick_const : (c : Select-F Walk WalkStep) → Inside IsConst c → ConstStep (walk_select_step c)
  pick_const (Select-F.Bit a) h = h
  pick_const (Select-F.Part a b) h = h
  pick_const (Select-F.Up a b) h = h
  pick_const (Select-F.Down a b) h = h

  walk_const : (x : Expr) → IsConst (fold_expr Walk WalkStep (walk_step names) walk_select_step x)
  walk_const x = of_expr Walk WalkStep (walk_step names) walk_select_step IsConst ConstStep node_const pick_const x

  selects_const : {n : _} (r : Row_of-Select n) → Each ConstStep (fold_selects Walk WalkStep (walk_step names) walk_select_step r)
  selects_const r = of_selects Walk WalkStep (walk_step names) walk_select_step IsConst ConstStep node_const pick_const r

-- ---- an expression as a target reads as it stands

module _ (names : Names) where
  abbrev walked : {n : _} → Row_of-Expr n → Walk
  walked r = fold_one Walk WalkStep (walk_step names) walk_select_step r

  abbrev sunk : {n : _} → Row_of-Expr n → Sink
  sunk r = fold_one Sink Choice (sink_step names) read_choice r

  abbrev AlikeOne : {n : _} → Row_of-Expr n → Type 0
  AlikeOne r = (sunk r).reading ≡ (walked r).shown.reading

  pair_alike : {A : Type 0} (f : Reading → Reading → A) {n m : _} (a : Row_of-Expr n) (b : Row_of-Expr m) → AlikeOne a → AlikeOne b →
      f (sunk a).reading (sunk b).reading ≡ f (walked a).shown.reading (walked b).shown.reading
  pair_alike f a b h k = two f (sunk a).reading (walked a).shown.reading (sunk b).reading (walked b).shown.reading h k

  mutual
    sink_alike : (x : Expr) → (fold_expr Sink Choice (sink_step names) read_choice x).reading ≡ (fold_expr Walk WalkStep (walk_step names) walk_select_step x).shown.reading
    sink_alike (e.Lit l) = refl
    sink_alike (e.Name' path n ss) = ap (λ (cs : List Choice). read_step names (Expr-F.Name path cs)) (selects_alike ss)
    sink_alike (e.Un' op n a) = ap (λ (r : Reading). read_step names (Expr-F.Un op r)) (one_alike a)
    sink_alike (e.Bin' op n a m b) = pair_alike (λ (r q : Reading). read_step names (Expr-F.Bin op r q)) a b (one_alike a) (one_alike b)
    sink_alike (e.Div' n a m b) = pair_alike (λ (r q : Reading). read_step names (Expr-F.Div r q)) a b (one_alike a) (one_alike b)
    sink_alike (e.Rem' n a m b) = pair_alike (λ (r q : Reading). read_step names (Expr-F.Rem r q)) a b (one_alike a) (one_alike b)
    sink_alike (e.Cond' n c m a k b) =
        ap (λ (r : Reading). read_step names (Expr-F.Cond r (sunk a).reading (sunk b).reading)) (one_alike c) ∙
        pair_alike (λ (r q : Reading). read_step names (Expr-F.Cond (walked c).shown.reading r q)) a b (one_alike a) (one_alike b)
    sink_alike (e.Cat' n es) = ap (λ (rs : List Reading). read_step names (Expr-F.Cat rs)) (all_alike es)
    sink_alike (e.Rep' n a m es) = two (λ (r : Reading) (rs : List Reading). read_step names (Expr-F.Rep r rs)) _ _ _ _ (one_alike a) (all_alike es)
    sink_alike (e.Cast' signed n a) = ap (λ (r : Reading). read_step names (Expr-F.Cast signed r)) (one_alike a)

    one_alike : {n : _} (r : Row_of-Expr n) → AlikeOne r
    one_alike end_of-Expr = refl
    one_alike (more_of-Expr x xs) = sink_alike x

    all_alike : {n : _} (r : Row_of-Expr n) → map (λ (s : Sink). s.reading) (fold_exprs Sink Choice (sink_step names) read_choice r) ≡
        map (λ r. r.reading) (map (λ (w : Walk). w.shown) (fold_exprs Walk WalkStep (walk_step names) walk_select_step r))
    all_alike end_of-Expr = refl
    all_alike (more_of-Expr x xs) = two (λ (y : Reading) (ys : List Reading). y ∷ ys) _ _ _ _ (sink_alike x) (all_alike xs)

    select_alike : (x : Select) → fold_select Sink Choice (sink_step names) read_choice x ≡
        step_choice (step_shown (fold_select Walk WalkStep (walk_step names) walk_select_step x))
    select_alike (s.Bit' n a) = ap (λ (r : Reading). let c : Choice = Select-F.Bit r in c) (one_alike a)
    select_alike (s.Part' n a m b) = pair_alike (λ (r q : Reading). let c : Choice = Select-F.Part r q in c) a b (one_alike a) (one_alike b)
    select_alike (s.Up' n a m b) = pair_alike (λ (r q : Reading). let c : Choice = Select-F.Up r q in c) a b (one_alike a) (one_alike b)
    select_alike (s.Down' n a m b) = pair_alike (λ (r q : Reading). let c : Choice = Select-F.Down r q in c) a b (one_alike a) (one_alike b)

    selects_alike : {n : _} (r : Row_of-Select n) → fold_selects Sink Choice (sink_step names) read_choice r ≡
        map step_choice (map step_shown (fold_selects Walk WalkStep (walk_step names) walk_select_step r))
    selects_alike end_of-Select = refl
    selects_alike (more_of-Select x xs) = two (λ (c : Choice) (cs : List Choice). c ∷ cs) _ _ _ _ (select_alike x) (selects_alike xs)

-- ---- targets

abbrev pub are_fixed : List Piece → Bool
are_fixed ps = list_all (λ (q : Piece). all_constant q.choices) ps

abbrev pub AreMaybeFixed : Option (List Piece) → Type 0
AreMaybeFixed None = Unit {0}
AreMaybeFixed (Some ps) = are_fixed ps ≡ true

both_fixed : (ps qs : List Piece) → are_fixed ps ≡ true → are_fixed qs ≡ true → are_fixed (ps ++ qs) ≡ true
both_fixed ps qs h k = list_all-append (λ (q : Piece). all_constant q.choices) ps qs ∙ and-both _ _ h k

join_fixed : (o p : Option (List Piece)) → AreMaybeFixed o → AreMaybeFixed p →
    AreMaybeFixed (elim o as (λ x. Option (List Piece)) [ None ↦ None | Some ps ↦ elim p as (λ x. Option (List Piece)) [ None ↦ None | Some qs ↦ Some (ps ++ qs) ] ])
join_fixed None p h k = tt
join_fixed (Some ps) None h k = tt
join_fixed (Some ps) (Some qs) h k = both_fixed ps qs h k

joined_driven : (role : Role) → is_driven role ≡ true → is_driven (joined_role role) ≡ true
joined_driven Value h = cc
joined_driven Joined h = cc
joined_driven Written h = cc
joined_driven Driven h = refl
joined_driven DrivenJoined h = refl

module _ (names : Names) where
  driven_selects : {n : _} (r : Row_of-Select n) (driven : Bool) (o : Option ℕ) → driven ≡ true →
      Fixed (flat_map (step_sites driven o) (fold_selects Walk WalkStep (walk_step names) walk_select_step r)) →
      all_constant (map step_choice (map step_shown (fold_selects Walk WalkStep (walk_step names) walk_select_step r))) ≡ true
  driven_selects r true o e h = steps_const true o (fold_selects Walk WalkStep (walk_step names) walk_select_step r) tt (selects_const names r) h
  driven_selects r false o e h = cc

  mutual
    sink_fixed : (x : Expr) (role : Role) (o : Option ℕ) (W : ℕ) (T : Bool) → is_driven role ≡ true →
        Fixed ((fold_expr Walk WalkStep (walk_step names) walk_select_step x).sites role o W T) → AreMaybeFixed (fold_expr Sink Choice (sink_step names) read_choice x).target
    sink_fixed (e.Lit l) role o W T d h = tt
    sink_fixed (e.Name' path n ss) role o W T d h =
        and-both _ true (ap all_constant (selects_alike names ss) ∙ driven_selects ss (is_driven role) o d (λ y i. h y (inr i))) refl
    sink_fixed (e.Un' op n a) role o W T d h = tt
    sink_fixed (e.Bin' op n a m b) role o W T d h = tt
    sink_fixed (e.Div' n a m b) role o W T d h = tt
    sink_fixed (e.Rem' n a m b) role o W T d h = tt
    sink_fixed (e.Cond' n c m a k b) role o W T d h = tt
    sink_fixed (e.Cat' n es) role o W T d h = sinks_fixed es (joined_role role) o (joined_driven role d) (λ y i. h y (inr i))
    sink_fixed (e.Rep' n a m es) role o W T d h = tt
    sink_fixed (e.Cast' signed n a) role o W T d h = tt

    sinks_fixed : {n : _} (r : Row_of-Expr n) (role : Role) (o : Option ℕ) → is_driven role ≡ true →
        Fixed (flat_map (own_sites role o) (fold_exprs Walk WalkStep (walk_step names) walk_select_step r)) →
        AreMaybeFixed (join_targets (fold_exprs Sink Choice (sink_step names) read_choice r))
    sinks_fixed end_of-Expr role o d h = refl
    sinks_fixed (more_of-Expr x xs) role o d h =
        join_fixed (fold_expr Sink Choice (sink_step names) read_choice x).target (join_targets (fold_exprs Sink Choice (sink_step names) read_choice xs))
        (sink_fixed x role o _ _ d (left_of (own_sites role o (fold_expr Walk WalkStep (walk_step names) walk_select_step x)) _ h))
        (sinks_fixed xs role o d (right_of (own_sites role o (fold_expr Walk WalkStep (walk_step names) walk_select_step x)) _ h))

  pub as_target_fixed : (x : Expr) (role : Role) (o : Option ℕ) → is_driven role ≡ true → Fixed (own_sites role o (walk names x)) → AreMaybeFixed (as_target names x)
  unfolding walk as_target
  as_target_fixed x role o d h = sink_fixed x role o _ _ d h

  driven_picks : (ss : List Select) → Each ConstStep (map (walk_select names) ss)
  unfolding walk_select
  driven_picks [] = tt
  driven_picks (x ∷ xs) = (of_select Walk WalkStep (walk_step names) walk_select_step IsConst ConstStep (node_const names) (pick_const names) x, driven_picks xs)

  mutual
    targets_fixed : {n : _} (r : Row_of-Target n) → Fixed (flat_map (λ (xs : List Site). xs) (fold_targets (List Site) (target_site_step names Driven) r)) →
        are_fixed (flat_map (λ (ps : List Piece). ps) (fold_targets (List Piece) (piece_step names) r)) ≡ true
    targets_fixed end_of-Target h = refl
    targets_fixed (more_of-Target x xs) h =
        both_fixed (fold_target (List Piece) (piece_step names) x) (flat_map (λ (ps : List Piece). ps) (fold_targets (List Piece) (piece_step names) xs))
        (target_by x (left_of (fold_target (List Site) (target_site_step names Driven) x) _ h))
        (targets_fixed xs (right_of (fold_target (List Site) (target_site_step names Driven) x) _ h))

    target_by : (x : Target) → Fixed (fold_target (List Site) (target_site_step names Driven) x) → are_fixed (fold_target (List Piece) (piece_step names) x) ≡ true
    target_by (t.Name path ss) h =
        and-both _ true (ap all_constant (sym (chosen-reads names ss)) ∙
        steps_const true None (map (walk_select names) ss) tt (driven_picks ss) (λ y i. h y (inr i))) refl
    target_by (t.Cat' n ts) h = targets_fixed ts h

  pub target_fixed : (x : Target) → Fixed (target_sites names Driven x) → are_fixed (pieces names x) ≡ true
  unfolding target_sites pieces
  target_fixed x h = target_by x h
