-- The bounds of a legal source's arrays are small: they read constants alone, which are those of the parameters, so Range speaks of the same numbers.
use Rattle.std.proofs.Common.{◌≡◌, inl, inr, ℕ, suc, ◌<◌, ◌≤◌, ◌^◌, arith, Bool, true, false, ◌&&◌, ◌||◌, not, List, [], ◌∷◌, ◌++◌, refl, sym, ap, ◌∙◌, subst, Option, Some, None}
use Rattle.std.specs.Prelude.{bytes_eq, flat_map, if◌then◌else◌, ℤ, pos, negsuc}
use Rattle.std.specs.List.{list_any}
use Rattle.std.proofs.lemmas.Bool.Decides.{nat_tests}
use Rattle.lv_bits.specs.declared.op.Op.{Op}
use Rattle.lv_bits.specs.Values.{keeps_width, is_apart}
use Rattle.lv_ast.specs.declared.expr.Path.{Path}
use Rattle.lv_ast.specs.declared.expr.Expr.{Expr, Row_of-Expr, end_of-Expr, more_of-Expr, Row_of-Select, end_of-Select, more_of-Select}
use Rattle.lv_ast.specs.declared.expr.Expr.TheVariants as e
use Rattle.lv_ast.specs.declared.expr.Expr.TheOpen.{Expr-F, Select-F}
use Rattle.lv_ast.specs.declared.expr.Select.{Select}
use Rattle.lv_ast.specs.declared.expr.Select.TheVariants as s
use Rattle.lv_ast.specs.declared.item.Range.{Range}
use Rattle.lv_ast.specs.Trees.{fold_exprs, fold_one, fold_select, fold_selects}
use Rattle.lv_ast.specs.declared.stmt.Ident.{Ident}
use Rattle.lv_ast.specs.declared.item.Module.{Module}
use Rattle.lv_ast.specs.declared.item.Source.{Source}
use Rattle.lv_ast.specs.Names.{Name, alone, has_no_steps}
use Rattle.lv_ast.specs.PlainNames.{plain_module, HasPlainNames}
use Rattle.lv_source.specs.Names.{Names, Declared, Bounds, Sort, Input, Net, Variable, Clock, Other, known, high, is_constant_sort, is_signal_sort}
use Rattle.lv_source.specs.Names.{Index as Index_sort}
use Rattle.lv_source.specs.Values.{number_of, nowhere}
use Rattle.lv_source.specs.Declarations.{Thing, Direction, Wire, Reg, Parameter, Index, Instance, Label, Declaration, declared_as}
use Rattle.lv_source.specs.Scopes.{Scope, bound, bound_number, bounds_of, signal, other, stands_for, scope_names, sort_of, is_among, is_reg, is_input, is_parameter, here_at, module_named}
use Rattle.lv_source.specs.Parts.{Design, numbered_from, stands_here, by_place, scope_signals, signals_of, scopes_from, scopes_of, depth, top_scope}
use Rattle.lv_source.specs.ScopeRules.{place_if, range_sites, declaration_sites, scope_spots, is_range, range_fault, not_constants, unknown_names, ranges}
use Rattle.lv_source.specs.Legal.{IsLegal, NotConstant, UnknownName, places_of}
use Rattle.lv_source.specs.Legal.{Range as Range_kind}
use Rattle.lv_source.proofs.Tests.{and-left, and-right, or-none_left}
use Rattle.lv_source.proofs.Facts.{some_same}
use Rattle.lv_source.proofs.FaultLaws.{in-flat, append-left, append-right, scopes_clean}
use Rattle.lv_source.proofs.Trees.{in-from}
use Rattle.lv_source.proofs.Kids.{mapped-from, named_any}
use Rattle.lv_source.proofs.Shaped.{IsShaped, in_if, in_sorted, in_numbered, filter_in, module_shaped, all_shaped, all_in, found_in}
use Rattle.lv_source.proofs.Given.{mapped_in}
use Rattle.lv_source.specs.Meaning.{Reading, Choice, read_expr, read_step, named, choice}
use Rattle.lv_source.specs.Sites.{Walk, WalkStep, Step, Role, Value, Joined, Site, Spot, walk, walk_step, walk_select_step, spots, expr_sites, own_sites, fixed_sites, index_sites, step_sites, below_sites, joined_role, is_driven}
use Rattle.lv_source.specs.NodeRules.{not_constant, unknown_name, is_bound, is_name_fault, is_early, is_unreadable, can_be_read, is_array_fault, is_written}
use Rattle.lv_source.proofs.Refused.{In, in-left, in-right}

-- neither NotConstant nor UnknownName is told there
pub record IsFixed (x : Site) : Type 0 where
  pub early : Path → Bool
  pub constant : not_constant (record { early = early; site = x }) ≡ []
  pub known_name : unknown_name x ≡ []

abbrev pub Fixed : List Site → Type 0
Fixed xs = (x : Site) → In x xs → IsFixed x

by_tests : (c a w k early : Bool) (place first : ℕ) → (if not c || a || w then place ∷ [] else []) ≡ [] → (if k && early || not c then [] else place ∷ first ∷ []) ≡ [] → k ≡ true
by_tests false a w k early place first h j = cc
by_tests true a w false early place first h j = cc
by_tests true a w true early place first h j = refl

constant_name : (role : Role) (ss : List Step) (early : Bool) (o : Option Declared) (place first : ℕ) → (if is_name_fault role o ss then place ∷ [] else []) ≡ [] →
    (if is_early early o || is_unreadable o then [] else place ∷ first ∷ []) ≡ [] → is_constant_sort (known o).sort ≡ true
constant_name role ss early None place first h k = cc
constant_name role ss early (Some d) place first h k =
    by_tests (can_be_read d.sort) (is_array_fault d.array ss) (is_written role && is_constant_sort d.sort) (is_constant_sort d.sort) early place first h k

left_of : (xs ys : List Site) → Fixed (xs ++ ys) → Fixed xs
left_of xs ys h x i = h x (in-left x xs ys i)

right_of : (xs ys : List Site) → Fixed (xs ++ ys) → Fixed ys
right_of xs ys h x i = h x (in-right x xs ys i)

if_fixed : {R : Type 0} (b : Bool) (xs ys : List Site) → Fixed (if b then xs else ys) → (Fixed xs → R) → (Fixed ys → R) → R
if_fixed true xs ys h f g = f h
if_fixed false xs ys h f g = g h

two : {A B C : Type 0} (f : A → B → C) (x y : A) (u v : B) → x ≡ y → u ≡ v → f x u ≡ f y v
two f x y u v h k = ap (λ z. f z u) h ∙ ap (λ z. f y z) k

module _ (N M : Names) (agree : (p : Path) → is_constant_sort (known (N p)).sort ≡ true → M p ≡ N p) where
  abbrev walk_of_one : {n : _} → Row_of-Expr n → Walk
  walk_of_one r = fold_one Walk WalkStep (walk_step N) walk_select_step r

  abbrev Ws : {n : _} → Row_of-Expr n → List Walk
  Ws r = fold_exprs Walk WalkStep (walk_step N) walk_select_step r

  abbrev reading_of_one : Names → {n : _} → Row_of-Expr n → Reading
  reading_of_one names r = fold_one Reading Choice (read_step names) choice r

  abbrev Rs : Names → {n : _} → Row_of-Expr n → List Reading
  Rs names r = fold_exprs Reading Choice (read_step names) choice r

  abbrev SameOne : {n : _} → Row_of-Expr n → Type 0
  SameOne r = reading_of_one M r ≡ reading_of_one N r

  pair_reading : (f : Reading → Reading → Reading) {n m : _} (a : Row_of-Expr n) (b : Row_of-Expr m) → SameOne a → SameOne b → f (reading_of_one M a) (reading_of_one M b) ≡ f (reading_of_one N a) (reading_of_one N b)
  pair_reading f a b h k = two f (reading_of_one M a) (reading_of_one N a) (reading_of_one M b) (reading_of_one N b) h k

  pair_choice : (f : Reading → Reading → Choice) {n m : _} (a : Row_of-Expr n) (b : Row_of-Expr m) → SameOne a → SameOne b → f (reading_of_one M a) (reading_of_one M b) ≡ f (reading_of_one N a) (reading_of_one N b)
  pair_choice f a b h k = two f (reading_of_one M a) (reading_of_one N a) (reading_of_one M b) (reading_of_one N b) h k

  abbrev EachOne : {n : _} → Row_of-Expr n → Type 0
  EachOne r = (first W : ℕ) (T : Bool) → Fixed ((walk_of_one r).sites Value (Some first) W T) → SameOne r

  bin_left : (op : Op) {n m : _} (a : Row_of-Expr n) (b : Row_of-Expr m) → EachOne a → (first W : ℕ) (T : Bool) → Fixed (below_sites (Expr-F.Bin op (walk_of_one a) (walk_of_one b)) Value (Some first) W T) → SameOne a
  bin_left op a b each first W T h =
      if_fixed (keeps_width op) _ _ h
      (λ f. each first W T (left_of ((walk_of_one a).sites Value (Some first) W T) _ f))
      (λ f. if_fixed (is_apart op) _ _ f (λ g. each first _ _ (left_of (own_sites Value (Some first) (walk_of_one a)) _ g)) (λ g. each first _ _ (left_of ((walk_of_one a).sites Value (Some first) _ _) _ g)))

  bin_right : (op : Op) {n m : _} (a : Row_of-Expr n) (b : Row_of-Expr m) → EachOne b → (first W : ℕ) (T : Bool) → Fixed (below_sites (Expr-F.Bin op (walk_of_one a) (walk_of_one b)) Value (Some first) W T) → SameOne b
  bin_right op a b each first W T h =
      if_fixed (keeps_width op) _ _ h
      (λ f. if_fixed (is_apart op) _ _ (right_of ((walk_of_one a).sites Value (Some first) W T) _ f) (λ g. each first _ _ g) (λ g. each first W T g))
      (λ f. if_fixed (is_apart op) _ _ f (λ g. each first _ _ (right_of (own_sites Value (Some first) (walk_of_one a)) _ g)) (λ g. each first _ _ (right_of ((walk_of_one a).sites Value (Some first) _ _) _ g)))

  same_index : {n : _} (a : Row_of-Expr n) (constant : Bool) (first : ℕ) → EachOne a → Fixed (index_sites constant (Some first) (walk_of_one a)) → SameOne a
  same_index a true first each h = each _ _ _ h
  same_index a false first each h = each first _ _ h

  mutual
    unfolding walk read_expr

    -- an expression in a constant position reads the same with the constants alone
    pub same : (x : Expr) (role : Role) (first W : ℕ) (T : Bool) → Fixed ((walk N x).sites role (Some first) W T) → read_expr M x ≡ read_expr N x
    same (e.Lit l) role first W T h = refl
    same (e.Name' path n ss) role first W T h =
        let here : IsFixed _ = h _ (inl refl) in
        two (λ (o : Option Declared) (cs : List Choice). named (known o) cs) (M path) (N path) _ _ (agree path (constant_name role _ (here.early path) (N path) path.place first here.known_name here.constant))
        (same_selects ss (is_driven role) first (λ y i. h y (inr i)))
    same (e.Un' op n a) role first W T h =
        ap (λ (r : Reading). read_step N (Expr-F.Un op r))
        (if_fixed (keeps_width op) ((walk_of_one a).sites Value (Some first) W T) (own_sites Value (Some first) (walk_of_one a)) (λ y i. h y (inr i)) (λ f. same_one a Value first W T f) (λ f. same_one a Value first _ _ f))
    same (e.Bin' op n a m b) role first W T h =
        pair_reading (λ (r q : Reading). read_step N (Expr-F.Bin op r q)) a b (bin_left op a b (λ f w u g. same_one a Value f w u g) first W T (λ y i. h y (inr i)))
        (bin_right op a b (λ f w u g. same_one b Value f w u g) first W T (λ y i. h y (inr i)))
    same (e.Div' n a m b) role first W T h =
        pair_reading (λ (r q : Reading). read_step N (Expr-F.Div r q)) a b (same_one a Value first W T (left_of _ ((walk_of_one b).sites Value (Some first) W T) (λ y i. h y (inr i))))
        (same_one b Value first W T (right_of ((walk_of_one a).sites Value (Some first) W T) _ (λ y i. h y (inr i))))
    same (e.Rem' n a m b) role first W T h =
        pair_reading (λ (r q : Reading). read_step N (Expr-F.Rem r q)) a b (same_one a Value first W T (left_of _ ((walk_of_one b).sites Value (Some first) W T) (λ y i. h y (inr i))))
        (same_one b Value first W T (right_of ((walk_of_one a).sites Value (Some first) W T) _ (λ y i. h y (inr i))))
    same (e.Cond' n c m a k b) role first W T h =
        let all : Fixed ((own_sites Value (Some first) (walk_of_one c) ++ (walk_of_one a).sites Value (Some first) W T) ++ (walk_of_one b).sites Value (Some first) W T) = (λ y i. h y (inr i)) in
        let front : Fixed (own_sites Value (Some first) (walk_of_one c) ++ (walk_of_one a).sites Value (Some first) W T) = left_of _ ((walk_of_one b).sites Value (Some first) W T) all in
        ap (λ (r : Reading). read_step N (Expr-F.Cond r (reading_of_one M a) (reading_of_one M b))) (same_one c Value first _ _ (left_of (own_sites Value (Some first) (walk_of_one c)) ((walk_of_one a).sites Value (Some first) W T) front)) ∙
        pair_reading (λ (r q : Reading). read_step N (Expr-F.Cond (reading_of_one N c) r q)) a b (same_one a Value first W T (right_of (own_sites Value (Some first) (walk_of_one c)) _ front))
        (same_one b Value first W T (right_of (own_sites Value (Some first) (walk_of_one c) ++ (walk_of_one a).sites Value (Some first) W T) _ all))
    same (e.Cat' n es) role first W T h = ap (λ (rs : List Reading). read_step N (Expr-F.Cat rs)) (same_all es (joined_role role) first (λ y i. h y (inr i)))
    same (e.Rep' n a m es) role first W T h =
        two (λ (r : Reading) (rs : List Reading). read_step N (Expr-F.Rep r rs)) (reading_of_one M a) (reading_of_one N a) (Rs M es) (Rs N es)
        (same_one a Value _ _ _ (left_of (fixed_sites (walk_of_one a)) (flat_map (own_sites Joined (Some first)) (Ws es)) (λ y i. h y (inr i))))
        (same_all es Joined first (right_of (fixed_sites (walk_of_one a)) (flat_map (own_sites Joined (Some first)) (Ws es)) (λ y i. h y (inr i))))
    same (e.Cast' signed n a) role first W T h = ap (λ (r : Reading). read_step N (Expr-F.Cast signed r)) (same_one a Value first _ _ (λ y i. h y (inr i)))

    same_one : {n : _} (r : Row_of-Expr n) (role : Role) (first W : ℕ) (T : Bool) → Fixed ((walk_of_one r).sites role (Some first) W T) → SameOne r
    same_one end_of-Expr role first W T h = refl
    same_one (more_of-Expr x xs) role first W T h = same x role first W T h

    same_all : {n : _} (r : Row_of-Expr n) (role : Role) (first : ℕ) → Fixed (flat_map (own_sites role (Some first)) (Ws r)) → Rs M r ≡ Rs N r
    same_all end_of-Expr role first h = refl
    same_all (more_of-Expr x xs) role first h =
        two (λ (y : Reading) (ys : List Reading). y ∷ ys) (read_expr M x) (read_expr N x) (Rs M xs) (Rs N xs)
        (same x role first _ _ (left_of (own_sites role (Some first) (walk N x)) (flat_map (own_sites role (Some first)) (Ws xs)) h))
        (same_all xs role first (right_of (own_sites role (Some first) (walk N x)) (flat_map (own_sites role (Some first)) (Ws xs)) h))

    same_select : (x : Select) (constant : Bool) (first : ℕ) → Fixed (step_sites constant (Some first) (fold_select Walk WalkStep (walk_step N) walk_select_step x)) →
        fold_select Reading Choice (read_step M) choice x ≡ fold_select Reading Choice (read_step N) choice x
    same_select (s.Bit' n a) constant first h = ap (λ (r : Reading). let c : Choice = Select-F.Bit r in c) (same_index a constant first (λ f w u g. same_one a Value f w u g) h)
    same_select (s.Part' n a m b) constant first h =
        pair_choice (λ (r q : Reading). Select-F.Part r q) a b (same_one a Value _ _ _ (left_of (fixed_sites (walk_of_one a)) (fixed_sites (walk_of_one b)) h)) (same_one b Value _ _ _ (right_of (fixed_sites (walk_of_one a)) (fixed_sites (walk_of_one b)) h))
    same_select (s.Up' n a m b) constant first h =
        pair_choice (λ (r q : Reading). Select-F.Up r q) a b (same_index a constant first (λ f w u g. same_one a Value f w u g) (left_of (index_sites constant (Some first) (walk_of_one a)) (fixed_sites (walk_of_one b)) h))
        (same_one b Value _ _ _ (right_of (index_sites constant (Some first) (walk_of_one a)) (fixed_sites (walk_of_one b)) h))
    same_select (s.Down' n a m b) constant first h =
        pair_choice (λ (r q : Reading). Select-F.Down r q) a b (same_index a constant first (λ f w u g. same_one a Value f w u g) (left_of (index_sites constant (Some first) (walk_of_one a)) (fixed_sites (walk_of_one b)) h))
        (same_one b Value _ _ _ (right_of (index_sites constant (Some first) (walk_of_one a)) (fixed_sites (walk_of_one b)) h))

    same_selects : {n : _} (r : Row_of-Select n) (constant : Bool) (first : ℕ) → Fixed (flat_map (step_sites constant (Some first)) (fold_selects Walk WalkStep (walk_step N) walk_select_step r)) →
        fold_selects Reading Choice (read_step M) choice r ≡ fold_selects Reading Choice (read_step N) choice r
    same_selects end_of-Select constant first h = refl
    same_selects (more_of-Select x xs) constant first h =
        two (λ (c : Choice) (cs : List Choice). c ∷ cs) _ _ _ _
        (same_select x constant first (left_of (step_sites constant (Some first) (fold_select Walk WalkStep (walk_step N) walk_select_step x)) _ h))
        (same_selects xs constant first (right_of (step_sites constant (Some first) (fold_select Walk WalkStep (walk_step N) walk_select_step x)) _ h))

-- ---- the names of a scope and its constants

sort_by : (a b c : Bool) → is_constant_sort (if a then Clock else if b then Variable else if c then Input else Net) ≡ false
sort_by true b c = refl
sort_by false true c = refl
sort_by false false true = refl
sort_by false false false = refl

abbrev stood : Names → Name → Ident → Sort → Path → Thing → Option Declared
stood names path n sort p t = elim t as (λ _. Option Declared) [
  | Direction o w signed range ↦ Some (signal names path n.name sort signed range None)
  | Wire signed range ↦ Some (signal names path n.name sort signed range None)
  | Reg signed range array ↦ Some (signal names path n.name sort signed range array)
  | Parameter l s r v ↦ names p
  | Index g ↦ Some (other (Index_sort g))
  | Instance ↦ Some (other Other)
  | Label ↦ Some (other Other)
]

clash : (b : Bool) → b ≡ true → b ≡ false → ⊥
clash b h k = (let e : true ≡ false = sym h ∙ k in cc)

thing_agree : (names : Names) (path : Name) (n : Ident) (sort : Sort) (p : Path) (t : Thing) → is_constant_sort sort ≡ false → is_constant_sort (known (stood names path n sort p t)).sort ≡ true → names p ≡ stood names path n sort p t
thing_agree names path n sort p (Direction o w s r) f h = absurd (clash (is_constant_sort sort) h f)
thing_agree names path n sort p (Wire s r) f h = absurd (clash (is_constant_sort sort) h f)
thing_agree names path n sort p (Reg s r b) f h = absurd (clash (is_constant_sort sort) h f)
thing_agree names path n sort p (Parameter l s r v) f h = refl
thing_agree names path n sort p (Index g) f h = cc
thing_agree names path n sort p Instance f h = cc
thing_agree names path n sort p Label f h = cc

stands_agree : (names : Names) (path : Name) (top clock : Bool) (p : Path) (xs : List Declaration) → is_constant_sort (known (stands_for names path top clock p xs)).sort ≡ true →
    names p ≡ stands_for names path top clock p xs
stands_agree names path top clock p [] h = refl
stands_agree names path top clock p (d ∷ ds) h =
    thing_agree names path d.name (sort_of top clock (d ∷ ds)) p d.thing (sort_by clock (list_any is_reg (d ∷ ds)) (top && list_any is_input (d ∷ ds))) h

steps_agree : (b : Bool) (r o : Option Declared) → (is_constant_sort (known o).sort ≡ true → r ≡ o) → is_constant_sort (known (if b then o else None)).sort ≡ true → r ≡ (if b then o else None)
steps_agree true r o f h = f h
steps_agree false r o f h = cc

scope_agree : (u : Scope) (h : IsShaped u) (p : Path) → is_constant_sort (known (u.names p)).sort ≡ true → h.constants p ≡ u.names p
scope_agree u h p k =
    let at : u.names p ≡ scope_names h.constants u.path h.top h.clocks u.declarations p = ap (λ (ns : Names). ns p) h.names in
    steps_agree (has_no_steps p) (h.constants p) (stands_for h.constants u.path h.top (is_among h.clocks p.name) p (declared_as p.name u.declarations))
    (stands_agree h.constants u.path h.top (is_among h.clocks p.name) p (declared_as p.name u.declarations))
    (ap (λ (o : Option Declared). is_constant_sort (known o).sort) (sym at) ∙ k) ∙ sym at

-- ---- what Range asks of an array

abbrev array_of : Thing → Option Range
array_of (Reg s r a) = a
array_of _ = None

flat_none : {A B : Type 0} (f : A → List B) (xs : List A) (x : A) → flat_map f xs ≡ [] → In x xs → f x ≡ []
flat_none f [] x h i = absurd i
flat_none f (y ∷ ys) x h (inl k) = ap f (sym k) ∙ append-left (f y) (flat_map f ys) h
flat_none f (y ∷ ys) x h (inr i) = flat_none f ys x (append-right (f y) (flat_map f ys) h) i

told_none : (b : Bool) (place : ℕ) → place_if (not b) place ≡ [] → b ≡ true
told_none true place h = refl
told_none false place h = cc

range_by : (names : Names) (n : Ident) (t : Thing) (r : Range) → array_of t ≡ Some r → range_fault names (record { name = n; thing = t }) ≡ [] →
    (is_bound (bound_number names r.left) ≡ true) × (is_bound (bound_number names r.right) ≡ true)
range_by names n (Reg s range None) r e h = cc
range_by names n (Reg s range (Some q)) r e h =
    let ok : is_range names false (Some q) ≡ true = and-right (is_range names true range) (is_range names false (Some q)) (told_none (is_range names true range && is_range names false (Some q)) n.place h) in
    let front : (is_bound (bound_number names q.left) && is_bound (bound_number names q.right)) ≡ true = and-left (is_bound (bound_number names q.left) && is_bound (bound_number names q.right)) _ ok in
    let same_range : q ≡ r = some_same q r e in (
      ap (λ (z : Range). is_bound (bound_number names z.left)) (sym same_range) ∙ and-left (is_bound (bound_number names q.left)) _ front,
      ap (λ (z : Range). is_bound (bound_number names z.right)) (sym same_range) ∙ and-right (is_bound (bound_number names q.left)) _ front,
    )
range_by names n (Direction o w s r) q e h = cc
range_by names n (Wire s r) q e h = cc
range_by names n (Parameter l s r v) q e h = cc
range_by names n (Index g) q e h = cc
range_by names n Instance q e h = cc
range_by names n Label q e h = cc

sites_by : (names : Names) (n : Ident) (t : Thing) (r : Range) (y : Site) → array_of t ≡ Some r → In y (range_sites names (Some r)) → In y (declaration_sites names (record { name = n; thing = t }))
sites_by names n (Reg s range a) r y e h = in-right y (range_sites names range) (range_sites names a) (subst (λ (o : Option Range). In y (range_sites names o)) (sym e) h)
sites_by names n (Direction o w s r) q y e h = cc
sites_by names n (Wire s r) q y e h = cc
sites_by names n (Parameter l s r v) q y e h = cc
sites_by names n (Index g) q y e h = cc
sites_by names n Instance q y e h = cc
sites_by names n Label q y e h = cc

bound_small : (z : ℤ) → is_bound z ≡ true → bound z ≤ 65535
bound_small (pos n) h = grind (arith, nat_tests, h)
bound_small (negsuc n) h = cc

numbered_has : (d : Declaration) (xs : List Declaration) (j : ℕ) → In d xs → (k : ℕ) × In (k, d) (numbered_from j xs)
numbered_has d [] j h = absurd h
numbered_has d (x ∷ xs) j (inl e) = (j, inl (ap (λ z. (j, z)) e))
numbered_has d (x ∷ xs) j (inr h) = (let r : (k : ℕ) × In (k, d) (numbered_from (suc j) xs) = numbered_has d xs (suc j) h in (r.0, inr r.1))

module _ (source : Source) (u : Scope) (h : IsShaped u) (constant : not_constants source u ≡ []) (names : unknown_names source u ≡ []) (range : ranges source u ≡ []) where
  spot_in : (k : ℕ) (d : Declaration) (y : Site) → In (k, d) (numbered_from 0 u.declarations) → In y (declaration_sites u.names d) →
      In (record { early = (here_at u k).early; site = y }) (scope_spots source u)
  spot_in k d y i j =
      in-left (record { early = (here_at u k).early; site = y }) (flat_map (λ (kd : ℕ × Declaration). spots (here_at u kd.0) (declaration_sites u.names kd.1)) (numbered_from 0 u.declarations)) _
      (in-flat (λ (kd : ℕ × Declaration). spots (here_at u kd.0) (declaration_sites u.names kd.1)) (k, d) (record { early = (here_at u k).early; site = y }) (numbered_from 0 u.declarations) i
      (mapped_in (λ (x : Site). let p : Spot = record { early = (here_at u k).early; site = x } in p) y (declaration_sites u.names d) j))

  fixed : (k : ℕ) (d : Declaration) (y : Site) → In (k, d) (numbered_from 0 u.declarations) → In y (declaration_sites u.names d) → IsFixed y
  fixed k d y i j = record {
    early = (here_at u k).early;
    constant = flat_none not_constant (scope_spots source u) (record { early = (here_at u k).early; site = y }) constant (spot_in k d y i j);
    known_name = flat_none (λ (x : Spot). unknown_name x.site) (scope_spots source u) (record { early = (here_at u k).early; site = y })
        (append-left (flat_map (λ (x : Spot). unknown_name x.site) (scope_spots source u)) _ (append-left _ _ names)) (spot_in k d y i j);
  }

  number_same : (x : Expr) → Fixed (expr_sites true u.names 0 x) → bound_number h.constants x ≡ bound_number u.names x
  number_same x f = ap (λ (r : Reading). number_of r.meaning nowhere) (same u.names h.constants (scope_agree u h) x Value _ _ _ f)

  array_small : (d : Declaration) (r : Range) → In d u.declarations → array_of d.thing ≡ Some r → high (bounds_of h.constants r) < 2 ^ 64
  array_small d r i e =
      let k : (k : ℕ) × In (k, d) (numbered_from 0 u.declarations) = numbered_has d u.declarations 0 i in
      let told : range_fault u.names d ≡ [] = flat_none (range_fault u.names) u.declarations d
      (append-right _ (flat_map (range_fault u.names) u.declarations) (append-left _ _ (append-left _ _ range))) i in
      let both : (is_bound (bound_number u.names r.left) ≡ true) × (is_bound (bound_number u.names r.right) ≡ true) = range_by u.names d.name d.thing r e told in
      let left : bound (bound_number h.constants r.left) ≤ 65535 = bound_small (bound_number h.constants r.left)
      (ap is_bound (number_same r.left (λ y j. fixed k.0 d y k.1 (sites_by u.names d.name d.thing r y e (in-left y (expr_sites true u.names 0 r.left) (expr_sites true u.names 0 r.right) j)))) ∙ both.0) in
      let right : bound (bound_number h.constants r.right) ≤ 65535 = bound_small (bound_number h.constants r.right)
      (ap is_bound (number_same r.right (λ y j. fixed k.0 d y k.1 (sites_by u.names d.name d.thing r y e (in-right y (expr_sites true u.names 0 r.left) (expr_sites true u.names 0 r.right) j)))) ∙ both.1) in
      omega arith

  thing_small : (n : Ident) (sort : Sort) (p : Path) (t : Thing) → ((r : Range) → array_of t ≡ Some r → high (bounds_of h.constants r) < 2 ^ 64) → (is_parameter (record { name = n; thing = t }) ≡ true → is_signal_sort (known (h.constants p)).sort ≡ false) →
      is_signal_sort (known (stood h.constants u.path n sort p t)).sort ≡ true → (b : Bounds) → (known (stood h.constants u.path n sort p t)).array ≡ Some b → high b < 2 ^ 64
  thing_small n sort p (Reg s range None) f g k b e = cc
  thing_small n sort p (Reg s range (Some r)) f g k b e = subst (λ (z : Bounds). high z < 2 ^ 64) (some_same (bounds_of h.constants r) b e) (f r refl)
  thing_small n sort p (Direction o w s r) f g k b e = cc
  thing_small n sort p (Wire s r) f g k b e = cc
  thing_small n sort p (Parameter l s r v) f g k b e = absurd (clash _ k (g refl))
  thing_small n sort p (Index i) f g k b e = cc
  thing_small n sort p Instance f g k b e = cc
  thing_small n sort p Label f g k b e = cc

  stands_small : (clock : Bool) (m : Name) (xs : List Declaration) (d : Declaration) → In d xs → ((c : Declaration) → In c xs → In c u.declarations × (c.name.name ≡ m)) →
      is_signal_sort (known (stands_for h.constants u.path h.top clock (alone m) xs)).sort ≡ true → (b : Bounds) → (known (stands_for h.constants u.path h.top clock (alone m) xs)).array ≡ Some b → high b < 2 ^ 64
  stands_small clock m [] d i f k b e = absurd i
  stands_small clock m (c ∷ cs) d i f k b e =
      thing_small c.name (sort_of h.top clock (c ∷ cs)) (alone m) c.thing (λ r q. array_small c r (f c (inl refl)).0 q) (λ q. or-none_left _ _ (h.fixed m c (f c (inl refl)).0 (f c (inl refl)).1 q)) k b e

  signal_small : (x : Declared) → In x (scope_signals u) → (b : Bounds) → x.array ≡ Some b → high b < 2 ^ 64
  signal_small x i b e =
      let sorted : List (ℕ × Declared) = by_place (flat_map (stands_here u) (numbered_from 0 u.declarations)) in
      let px : (p : ℕ × Declared) × In p sorted × (p.1 ≡ x) = mapped-from (λ (p : ℕ × Declared). p.1) x sorted i in
      let at : (kx : ℕ × Declaration) × In kx (numbered_from 0 u.declarations) × In px.0 (stands_here u kx) = in-from (stands_here u) px.0 (numbered_from 0 u.declarations) (in_sorted px.0 _ px.1) in
      let d : Declaration = at.0.1 in
      let m : Name = d.name.name in
      let among : In d u.declarations = in_numbered at.0 u.declarations 0 at.1 in
      let here : (_ ≡ true) × ((d.name.place, known (u.names (alone m))) ≡ px.0) = in_if _ (d.name.place, known (u.names (alone m))) px.0 at.2 in
      let is : known (u.names (alone m)) ≡ x = ap (λ (p : ℕ × Declared). p.1) here.1 ∙ px.2 in
      let sort : is_signal_sort (known (u.names (alone m))).sort ≡ true = and-left (is_signal_sort (known (u.names (alone m))).sort) _ here.0 in
      let name : u.names (alone m) ≡ stands_for h.constants u.path h.top (is_among h.clocks m) (alone m) (declared_as m u.declarations) = ap (λ (ns : Names). ns (alone m)) h.names in
      stands_small (is_among h.clocks m) m (declared_as m u.declarations) d (named_any m u.declarations d among refl) (λ c j. filter_in m u.declarations c j)
      (ap (λ (o : Option Declared). is_signal_sort (known o).sort) (sym name) ∙ sort) b
      (ap (λ (o : Option Declared). (known o).array) (sym name) ∙ (ap (λ (z : Declared). z.array) is ∙ e))

from_small : (d : Design) → HasPlainNames d.source → (o : Option Module) → ((m : Module) → o ≡ Some m → plain_module m ≡ true) →
    ((u : Scope) → In u (scopes_from d o) → (not_constants d.source u ≡ []) × (unknown_names d.source u ≡ []) × (ranges d.source u ≡ [])) → (x : Declared) → In x (flat_map scope_signals (scopes_from d o)) →
    (b : Bounds) → x.array ≡ Some b → high b < 2 ^ 64
from_small d plain None f g x i b e = absurd i
from_small d plain (Some m) f g x i b e =
    let u : (u : Scope) × In u (scopes_from d (Some m)) × In x (scope_signals u) = in-from scope_signals x (scopes_from d (Some m)) i in
    let c : (not_constants d.source u.0 ≡ []) × (unknown_names d.source u.0 ≡ []) × (ranges d.source u.0 ≡ []) = g u.0 u.1 in
    signal_small d.source u.0 (all_shaped d.source plain (suc (depth d.source)) (top_scope d m) (module_shaped [] true [] [] (λ constants. d.clock ∷ []) m (f m refl)) u.0 u.1) c.0 c.1 c.2 x u.2 b e

pub arrays_small : (d : Design) → IsLegal d → HasPlainNames d.source → (x : Declared) → In x (signals_of d) → (b : Bounds) → x.array ≡ Some b → high b < 2 ^ 64
unfolding scopes_of signals_of places_of
arrays_small d legal plain x i b e =
    from_small d plain (module_named d.source d.top)
    (λ m k. all_in plain_module d.source.modules m plain.plain (found_in (λ m. bytes_eq m.name.name d.top) d.source.modules m k))
    (λ u k. (
      scopes_clean (not_constants d.source) (scopes_of d) (append-left _ _ (legal.nothing NotConstant)) u k,
      scopes_clean (unknown_names d.source) (scopes_of d) (legal.nothing UnknownName) u k,
      scopes_clean (ranges d.source) (scopes_of d) (legal.nothing Range_kind) u k,
    )) x i b e
