-- The clock of the top is listed by its path among all that is declared, where names have no space inside.
use Rattle.std.proofs.Common.{◌≡◌, inl, inr, ℕ, zero, suc, Bool, true, false, ◌&&◌, not, List, [], ◌∷◌, ◌++◌, refl, sym, ap, ◌∙◌, subst, Option, Some, None}
use Rattle.std.specs.Prelude.{bytes_eq, flat_map, if◌then◌else◌}
use Rattle.lv_ast.specs.declared.item.Module.{Module}
use Rattle.lv_ast.specs.declared.item.Source.{Source}
use Rattle.lv_ast.specs.PlainNames.{has_space, plain_module, HasPlainNames}
use Rattle.lv_ast.specs.Names.{Name, alone, spelled, below}
use Rattle.lv_source.specs.Names.{Declared, known, is_signal_sort, is_clock_sort}
use Rattle.lv_source.specs.Declarations.{Declaration, of_items, of_module, declared_as}
use Rattle.lv_source.specs.Scopes.{Scope, module_named, children, scopes_within}
use Rattle.lv_source.specs.Parts.{Design, At, scope_declared, declared_of, scopes_from, scopes_of, depth, top_scope}
use Rattle.lv_source.specs.Legal.{Port, ClockUse, places_of, top_clock}
use Rattle.lv_source.specs.Views.{lists_clock, unlisted_clock, named_clocks, clock_views, views_of}
use Rattle.lv_source.proofs.Tests.{and-left, and-right, and-both, or-right, same_name, name-itself}
use Rattle.lv_source.proofs.Refused.{In, in-right}
use Rattle.lv_source.proofs.FaultLaws.{in-flat}
use Rattle.lv_source.proofs.Paths.{IsPlain, IsIndex, none, ends, more, no_list, split_step}
use Rattle.lv_source.proofs.Trees.{in-from, kid_text}
use Rattle.lv_source.proofs.Summaries.{append-none}
use Rattle.lv_source.proofs.Kids.{Headed, items_headed}
use Rattle.lv_source.proofs.Shaped.{IsShaped, filter_in, own_path, module_shaped, children_shaped, all_in, found_in}
use Rattle.lv_source.proofs.PartClocks.{clock_rule}
use Rattle.lv_source.proofs.TopClock.{IsEntry, entry_of, any_to, any_from, same_test, clock_here, clock_stands, clock_only, named_clock}

-- the path of an entry
entry_path : (s : Scope) → IsShaped s → (x : Declared) → In x (scope_declared s) → (n : Name) × (x.path ≡ below s.path n)
entry_path s h x i =
    let e : IsEntry s x = entry_of s x i in
    (spelled e.it.name.name, ap (λ (z : Declared). z.path) (sym e.is) ∙ own_path s h e.it e.among e.sort)

-- a child of a scope, by a plain name and an index
record IsKid (s c : Scope) : Type 0 where
  pub m : Name
  pub i : List ℕ
  pub plain : IsPlain m
  pub index : IsIndex i
  pub path : c.path ≡ below s.path (spelled m ++ i)

kid : (source : Source) (s : Scope) → IsShaped s → (c : Scope) → In c (children source s) → IsKid s c
kid source s h c i =
    let k : Headed s (of_items s.items) c = items_headed source s s.header s.items c i in
    record {
      m = k.from.name.name;
      i = k.index;
      plain = h.plain k.from (subst (λ (ds : List Declaration). In k.from ds) (sym h.whole) (in-right k.from h.front (of_items s.items) k.among));
      index = k.is_index;
      path = k.path;
    }

module _ (source : Source) (plain : HasPlainNames source) where
  -- an entry of the tree stands below its root
  under_root : (n : ℕ) (s u : Scope) (x : Declared) → IsShaped s → In u (scopes_within n source s) → In x (scope_declared u) → (w : Name) × (x.path ≡ below s.path w)
  under_root zero s u x h i j = absurd i
  under_root (suc n) s u x h (inl e) j = entry_path s h x (subst (λ (t : Scope). In x (scope_declared t)) (sym e) j)
  under_root (suc n) s u x h (inr i) j =
      let c : (c : Scope) × In c (children source s) × In u (scopes_within n source c) = in-from (scopes_within n source) u (children source s) i in
      let k : IsKid s c.0 = kid source s h c.0 c.1 in
      let rest : (w : Name) × (x.path ≡ below c.0.path w) = under_root n c.0 u x (children_shaped source plain s h c.0 c.1) c.2 j in
      (spelled k.m ++ (k.i ++ 46 ∷ rest.0), kid_text s.path c.0.path k.m k.i rest.0 x.path k.path rest.1)

  -- and one of a child has no path that is a name alone
  no_kid : (n : ℕ) (s u : Scope) (x : Declared) (name : Name) → IsShaped s → s.path ≡ [] → IsPlain name → In u (flat_map (scopes_within n source) (children source s)) → In x (scope_declared u) →
      x.path ≡ spelled name → ⊥
  no_kid n s u x name h root p i j e =
      let c : (c : Scope) × In c (children source s) × In u (scopes_within n source c) = in-from (scopes_within n source) u (children source s) i in
      let k : IsKid s c.0 = kid source s h c.0 c.1 in
      let rest : (w : Name) × (x.path ≡ below c.0.path w) = under_root n c.0 u x (children_shaped source plain s h c.0 c.1) c.2 j in
      let text : x.path ≡ below s.path (spelled k.m ++ (k.i ++ 46 ∷ rest.0)) = kid_text s.path c.0.path k.m k.i rest.0 x.path k.path rest.1 in
      let both : spelled name ++ ([] ++ []) ≡ spelled k.m ++ (k.i ++ 46 ∷ rest.0) =
      append-none (spelled name) ∙ (sym e ∙ (text ∙ ap (λ (p : Name). below p (spelled k.m ++ (k.i ++ 46 ∷ rest.0))) root)) in
      no_list 46 rest.0 (split_step name k.m [] k.i [] (46 ∷ rest.0) p k.plain none k.index ends (more rest.0) both).2

abbrev clock_at : Name → Declared → Bool
clock_at path x = is_clock_sort x.sort && bytes_eq x.path path

module _ (d : Design) (m : Module) (plain : HasPlainNames d.source) (spaceless : has_space d.clock ≡ false) (h : plain_module m ≡ true) where
  abbrev root : Scope
  root = top_scope d m

  abbrev the_clock : Declared
  the_clock = known (root.names (alone d.clock))

  shape : IsShaped root
  shape = module_shaped [] true [] [] (λ constants. d.clock ∷ []) m h

  abbrev listed : List Declared
  listed = flat_map scope_declared (scopes_within (suc (depth d.source)) d.source root)

  clock_path : is_clock_sort the_clock.sort ≡ true → the_clock.path ≡ spelled d.clock
  clock_path k =
      let r : (d.clock ≡ d.clock) × (c : Declaration) × In c (declared_as d.clock (of_module m)) = named_clock d m d.clock k in
      let at : In r.1 (of_module m) × (r.1.name.name ≡ d.clock) = filter_in d.clock (of_module m) r.1 r.2 in
      let sort : is_clock_sort (known (root.names (alone r.1.name.name))).sort ≡ true = ap (λ (n : Name). is_clock_sort (known (root.names (alone n))).sort) at.1 ∙ k in
      subst (λ (n : Name). (known (root.names (alone n))).path ≡ spelled n) at.1
      (own_path root shape r.1 at.0 (or-right (is_signal_sort (known (root.names (alone r.1.name.name))).sort) (is_clock_sort (known (root.names (alone r.1.name.name))).sort) sort))

  forth : is_clock_sort the_clock.sort ≡ true → lists_clock (spelled d.clock) listed ≡ true
  forth k =
      any_to (clock_at (spelled d.clock)) the_clock listed
      (in-flat scope_declared root the_clock (scopes_within (suc (depth d.source)) d.source root) (inl refl) (clock_stands d m k))
      (and-both (is_clock_sort the_clock.sort) (bytes_eq the_clock.path (spelled d.clock)) k
      (ap (λ (p : Name). bytes_eq p (spelled d.clock)) (clock_path k) ∙ name-itself (spelled d.clock)))

  from_scope : (x : Declared) (u : Scope) → In u (scopes_within (suc (depth d.source)) d.source root) → In x (scope_declared u) → is_clock_sort x.sort ≡ true → x.path ≡ spelled d.clock →
      is_clock_sort the_clock.sort ≡ true
  from_scope x u (inl e) j k p = ap clock_here (clock_only d m x (subst (λ (t : Scope). In x (scope_declared t)) (sym e) j) k) ∙ k
  from_scope x u (inr i) j k p = absurd (no_kid d.source plain (depth d.source) root u x d.clock shape refl spaceless i j p)

  back : lists_clock (spelled d.clock) listed ≡ true → is_clock_sort the_clock.sort ≡ true
  back l =
      let x : (x : Declared) × In x listed × (clock_at (spelled d.clock) x ≡ true) = any_from (clock_at (spelled d.clock)) listed l in
      let u : (u : Scope) × In u (scopes_within (suc (depth d.source)) d.source root) × In x.0 (scope_declared u) =
      in-from scope_declared x.0 (scopes_within (suc (depth d.source)) d.source root) x.1 in
      from_scope x.0 u.0 u.1 u.2 (and-left (is_clock_sort x.0.sort) (bytes_eq x.0.path (spelled d.clock)) x.2)
      (same_name x.0.path (spelled d.clock) (and-right (is_clock_sort x.0.sort) (bytes_eq x.0.path (spelled d.clock)) x.2))

  pub clock_listed : is_clock_sort the_clock.sort ≡ lists_clock (spelled d.clock) listed
  clock_listed = same_test (is_clock_sort the_clock.sort) (lists_clock (spelled d.clock) listed) forth back

turned : (b : Bool) (xs : List At) → (if b then [] else xs) ≡ (if not b then xs else [])
turned true xs = refl
turned false xs = refl

by_top : Design → Option Module → List At
by_top d o = elim o [
  | None ↦ []
  | Some m ↦ if is_clock_sort (known ((top_scope d m).names (alone d.clock))).sort then [] else record { path = []; place = 0 } ∷ []
]

pub top_listed : (d : Design) (m : Module) → module_named d.source d.top ≡ Some m → HasPlainNames d.source → has_space d.clock ≡ false → top_clock d ≡ unlisted_clock (spelled d.clock) (declared_of d)
unfolding declared_of scopes_of by_top
top_listed d m e plain spaceless =
    let at_top : List At = record { path = []; place = 0 } ∷ [] in
    let h : plain_module m ≡ true = all_in plain_module d.source.modules m plain.plain (found_in (λ m. bytes_eq m.name.name d.top) d.source.modules m e) in
    ap (by_top d) e ∙
    (turned (is_clock_sort (known ((top_scope d m).names (alone d.clock))).sort) at_top ∙
    (ap (λ b. if not b then at_top else []) (clock_listed d m plain spaceless h) ∙
    ap (λ (o : Option Module). unlisted_clock (spelled d.clock) (flat_map scope_declared (scopes_from d o))) (sym e)))

pub uses_listed : (d : Design) (m : Module) → module_named d.source d.top ≡ Some m → HasPlainNames d.source → has_space d.clock ≡ false → places_of d Port ≡ [] →
    places_of d ClockUse ≡ unlisted_clock (spelled d.clock) (declared_of d) ++ named_clocks (views_of d) ++ clock_views (views_of d)
uses_listed d m e plain spaceless h =
    clock_rule d h ∙ ap (λ (xs : List At). xs ++ named_clocks (views_of d) ++ clock_views (views_of d)) (top_listed d m e plain spaceless)
