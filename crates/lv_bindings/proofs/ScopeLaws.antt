-- The signals of a scope are those of the definition, in order.
use Rattle.std.proofs.Common.{◌≡◌, ◌⊎◌, inl, inr, ℕ, zero, suc, ◌+◌, arith, Bool, true, false, ◌&&◌, ◌==◌, List, [], ◌∷◌, ◌++◌, map, refl, sym, ap, ◌∙◌, subst, Option, Some, None}
use Rattle.std.specs.Prelude.{slice_get, flat_map, nat_le, if◌then◌else◌}
use Rattle.lv_ast.specs.Names.{Name, alone}
use Rattle.lv_source.specs.Names.{Declared, Sort, known}
use Rattle.lv_source.specs.Declarations.{Declaration, declared_as}
use Rattle.lv_source.specs.Parts.{numbered_from, is_declared_sort, is_first, declares_here, put_by_place, by_place, scope_declared}
use Rattle.lv_source.specs.Scopes.{is_direction}
use Rattle.lv_source.proofs.Bridges.{two, map-join, map-map}
use Rattle.lv_flat.specs.Signals.{declared}
use Rattle.lv_symbols.specs.declared.symbol.Symbol.{Symbol}
use Rattle.lv_symbols.specs.declared.symbol.Symbol.TheVariants as y
use Rattle.lv_symbols.specs.Frames.{Frame}
use Rattle.lv_bindings.specs.declared.group.Group.{Group}
use Rattle.lv_bindings.specs.declared.order.Standing.{Standing}
use Rattle.lv_bindings.specs.Grouping.{Numbered, group_for, place}
use Rattle.lv_bindings.specs.Order.{Outside, Seen, seen, signal_by, signal_with, seen_if, standing_at, all_standing, put_in_seen, in_order_seen, group_standing}
use Rattle.lv_bindings.specs.Bound.{IsBound, InBound}
use Rattle.lv_bindings.proofs.Lists.{number_in}
use Rattle.lv_bindings.proofs.NamedLaws.{numbered_is}
use Rattle.lv_bindings.proofs.FirstLaws.{stands_first}
use Rattle.lv_bindings.proofs.GroupLaws.{declared_has}
use Rattle.lv_bindings.proofs.FrameLaws.{Stood, by_tests, bound_name}

abbrev pair : Seen → ℕ × Declared
pair z = (z.place, z.signal)

some_or_none : (o : Option Group) → ((g : Group) × (o ≡ Some g)) ⊎ (o ≡ None)
some_or_none None = inr refl
some_or_none (Some g) = inl (g, refl)

pub group_there : (ds : List Declaration) (k : ℕ) (d : Declaration) → slice_get ds k ≡ Some d → (g : Group) × (group_for ds d.name.name ≡ Some g)
group_there ds k d h = elim (some_or_none (group_for ds d.name.name)) [ inl r ↦ r | inr e ↦ absurd (declared_has ds k d h e) ]

tests_declared : (a b c : Bool) → is_declared_sort (by_tests a b c) ≡ true
tests_declared true b c = refl
tests_declared false true c = refl
tests_declared false false true = refl
tests_declared false false false = refl

pub signal_declared : (o : Outside) (name : Name) (g : Group) (z : Option Symbol) (m : Declared) → signal_with o name g z ≡ Some m → is_declared_sort m.sort ≡ true
signal_declared o name g None m h = absurd (cc)
signal_declared o name g (Some y.Constant) m h = absurd (cc)
signal_declared o name g (Some (y.Index i)) m h = absurd (cc)
signal_declared o name g (Some y.Other) m h = absurd (cc)
signal_declared o name g (Some (y.Signal ranged signed b a)) m h =
    sym (let f : Option Declared → Bool = λ q. elim q [ None ↦ true | Some x ↦ is_declared_sort x.sort ] in ap f h) ∙ tests_declared _ g.variable (o.top && g.input)

abbrev pub kept_if : Bool → Option Declared → Option Declared
kept_if b x = if b then x else None

abbrev no_pairs : List (ℕ × Declared)
no_pairs = []

element_if : (b : Bool) (x q : Option Declared) (place number : ℕ) → Stood x q → ((m : Declared) → x ≡ Some m → is_declared_sort m.sort ≡ true) →
    map pair (seen_if place number (kept_if b x)) ≡ (if is_declared_sort (known q).sort && b then (place, known q) ∷ [] else [])
element_if true None q place number h f = sym (ap (λ s. if s && true then (place, known q) ∷ [] else []) h)
element_if true (Some m) q place number h f =
    sym (ap (λ (z : Option Declared). if is_declared_sort (known z).sort && true then (place, known z) ∷ [] else []) h ∙
    ap (λ s. if s && true then (place, m) ∷ [] else []) (f m refl))
element_if false x q place number h f =
    elim (is_declared_sort (known q).sort) as (λ s. no_pairs ≡ (if s && false then (place, known q) ∷ [] else [])) [ true ↦ refl | false ↦ refl ]

pub by_standing : (o : Outside) (name : Name) (ys : List Symbol) (g : Group) (b : Bool) →
    signal_by o name ys (if b then Some g else None) ≡ kept_if b (signal_with o name g (slice_get ys g.first))
by_standing o name ys g true = refl
by_standing o name ys g false = refl

module _ (f : Frame) (o : Outside) (ys : List Symbol) (h : IsBound o f.scope.declarations ys f) (names : List Name) where
  abbrev ds : List Declaration
  ds = f.scope.declarations

  element : (x : Numbered) → slice_get ds x.0 ≡ Some x.1 → map pair (standing_at names o ds ys x) ≡ declares_here is_declared_sort f.scope x
  element x r =
      let name : Name = x.1.name.name in
      let g = group_there ds x.0 x.1 r in
      ap (λ z. map pair (seen_if x.1.name.place (number_in names name) (signal_by o name ys (group_standing z x.0)))) g.1 ∙
      ap (λ z. map pair (seen_if x.1.name.place (number_in names name) z)) (by_standing o name ys g.0 (place g.0 == x.0)) ∙
      element_if (place g.0 == x.0) (signal_with o name g.0 (slice_get ys g.0.first)) (f.scope.names (alone name)) x.1.name.place (number_in names name)
      (bound_name f o ys h name g.0 g.1) (signal_declared o name g.0 (slice_get ys g.0.first)) ∙
      ap (λ b. if is_declared_sort (known (f.scope.names (alone name))).sort && b then (x.1.name.place, known (f.scope.names (alone name))) ∷ [] else [])
      (sym (stands_first ds x.0 x.1 g.0 r g.1))

  elements : (xs : List Numbered) → ((k : ℕ) (x : Numbered) → slice_get xs k ≡ Some x → slice_get ds x.0 ≡ Some x.1) →
      map pair (flat_map (standing_at names o ds ys) xs) ≡ flat_map (declares_here is_declared_sort f.scope) xs
  elements [] k = refl
  elements (x ∷ xs) k =
      map-join pair (standing_at names o ds ys x) (flat_map (standing_at names o ds ys) xs) ∙
      two (λ (us vs : List (ℕ × Declared)). us ++ vs) _ _ _ _ (element x (k 0 x refl)) (elements xs (λ j. k (suc j)))

  all_elements : map pair (all_standing names o ds ys) ≡ flat_map (declares_here is_declared_sort f.scope) (numbered_from 0 ds)
  all_elements = elements (numbered_from 0 ds)
      (λ k x e. (let r : (x.0 ≡ 0 + k) × (slice_get ds k ≡ Some x.1) = numbered_is 0 ds k x e in
      let n : x.0 ≡ k = (let m : x.0 ≡ 0 + k = r.0 in omega arith) in ap (slice_get ds) n ∙ r.1))

  put_pairs : (z : Seen) (zs : List Seen) → map pair (put_in_seen z zs) ≡ put_by_place (pair z) (map pair zs)
  put_pairs z [] = refl
  put_pairs z (e ∷ es) = elim (nat_le z.place e.place) as
      (λ b. map pair (if b then z ∷ e ∷ es else e ∷ put_in_seen z es) ≡ (if b then pair z ∷ pair e ∷ map pair es else pair e ∷ put_by_place (pair z) (map pair es))) [
        | true ↦ refl
        | false ↦ ap (λ us. pair e ∷ us) (put_pairs z es)
      ]

  order_pairs : (zs : List Seen) → map pair (in_order_seen zs) ≡ by_place (map pair zs)
  order_pairs [] = refl
  order_pairs (z ∷ zs) = put_pairs z (in_order_seen zs) ∙ ap (put_by_place (pair z)) (order_pairs zs)

  in_scope : map (λ (z : Seen). z.signal) (in_order_seen (all_standing names o ds ys)) ≡ scope_declared f.scope
  in_scope =
      sym (map-map (λ (x : ℕ × Declared). x.1) pair (in_order_seen (all_standing names o ds ys))) ∙
      ap (map (λ x. x.1)) (order_pairs (all_standing names o ds ys) ∙ ap by_place all_elements)

abbrev declared_at : Standing → Declared
declared_at z = declared z.signal

pub signals_in : (o : Outside) (ds : List Declaration) (ys : List Symbol) (names : List Name) (list : List Standing) →
    map seen list ≡ in_order_seen (all_standing names o ds ys) → InBound o ds ys (λ f. map declared_at list ≡ scope_declared f.scope)
signals_in o ds ys names list e = record {
  at = λ f h. subst (λ zs. IsBound o zs ys f → map seen list ≡ in_order_seen (all_standing names o zs ys) → map declared_at list ≡ scope_declared f.scope)
      h.declarations
      (λ r q. sym (map-map (λ (z : Seen). z.signal) seen list) ∙ ap (map (λ (z : Seen). z.signal)) q ∙ in_scope f o ys r names) h e;
}
