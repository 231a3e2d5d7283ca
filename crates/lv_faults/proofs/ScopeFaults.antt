-- What is told item by item and declaration by declaration is what is told of a scope.
use Rattle.std.proofs.Common.{◌≡◌, inl, inr, ℕ, suc, ◌+◌, true, List, [], ◌∷◌, ◌++◌, length, refl, sym, ap, subst, ◌∙◌}
use Rattle.std.specs.Prelude.{flat_map, Contains}
use Rattle.lv_ast.specs.declared.item.Item.{Item}
use Rattle.lv_ast.specs.declared.item.Source.{Source}
use Rattle.lv_source.specs.Declarations.{Declaration, of_item}
use Rattle.lv_source.specs.Faults.{site_faults, other_faults, scope_faults}
use Rattle.lv_source.specs.Legal.{Kind, UnknownModule, UnknownName, Duplicate, NotConstant, ZeroDivisor, Range, Recursion, Port, WrongKind, ClockUse, Blocking, Nonblocking, TwoDrivers, Undriven, Latch, ReadFirst}
use Rattle.lv_source.specs.Names.{Names}
use Rattle.lv_source.specs.Parts.{numbered_from}
use Rattle.lv_source.specs.Scopes.{Scope, here_at, counted_from, counted_items}
use Rattle.lv_source.specs.ScopeRules.{item_spots, standing_in, at_items, scope_spots, scope_standing, declaration_sites, unknown_module_in, unknown_in_form, unknown_in_item, two_defaults, declared_again, range_fault, range_in_form, range_in_item, recursion_in, ports_in_item, port_directions, two_ranges}
use Rattle.lv_source.specs.Sites.{Spot, spots}
use Rattle.lv_source.specs.Standing.{Standing}
use Rattle.lv_source.proofs.ClockNames.{flat-flat}
use Rattle.lv_source.proofs.Refused.{In, in_contains, contains_in, in-left, in-right, in-split}
use Rattle.lv_source.proofs.FaultLaws.{in-flat, append-left, append-right}
use Rattle.std.proofs.lemmas.Grind.{flat_map-append}
use Rattle.lv_faults.specs.Faults.{is_scope_kind, item_rules, item_faults, declaration_rules, declaration_faults, IsFaultless, AreFaultlessItems, AreFaultlessDeclarations}

-- ---- lists

pub flat_empty : {A B : Type 0} (f : A → List B) (xs : List A) → ((x : A) → In x xs → f x ≡ []) → flat_map f xs ≡ []
flat_empty f [] h = refl
flat_empty f (x ∷ xs) h = ap (λ ys. ys ++ flat_map f xs) (h x (inl refl)) ∙ flat_empty f xs (λ z i. h z (inr i))

pub both_empty : {A : Type 0} (xs ys : List A) → xs ≡ [] → ys ≡ [] → xs ++ ys ≡ []
both_empty xs ys h k = ap (λ zs. zs ++ ys) h ∙ k

-- in what is made of each of what is made of each
pub flat_over : {A B C : Type 0} (f : B → List C) (g : A → List B) (x : A) (y : C) (xs : List A) → In x xs → In y (flat_map f (g x)) → In y (flat_map f (flat_map g xs))
flat_over f g x y xs h k = subst (λ ys. In y ys) (sym (flat-flat f g xs)) (in-flat (λ x. flat_map f (g x)) x y xs h k)

pub over_empty : {A B C : Type 0} (f : B → List C) (g : A → List B) (xs : List A) → ((x : A) → In x xs → flat_map f (g x) ≡ []) → flat_map f (flat_map g xs) ≡ []
over_empty f g xs h = flat-flat f g xs ∙ flat_empty (λ x. flat_map f (g x)) xs h

counted_same : {B : Type 0} (f : Item → List B) (k : ℕ) (xs : List Item) → flat_map (λ (kx : ℕ × Item). f kx.1) (counted_from k xs) ≡ flat_map f xs
counted_same f k [] = refl
counted_same f k (x ∷ xs) = ap (λ ys. f x ++ ys) (counted_same f (k + length (of_item x)) xs)

numbered_same : {A B : Type 0} (f : A → List B) (k : ℕ) (xs : List A) → flat_map (λ (kx : ℕ × A). f kx.1) (numbered_from k xs) ≡ flat_map f xs
numbered_same f k [] = refl
numbered_same f k (x ∷ xs) = ap (λ ys. f x ++ ys) (numbered_same f (suc k) xs)

-- ---- the nodes of a scope

abbrev nodes_of : Scope → ℕ × Declaration → List Spot
nodes_of s kd = spots (here_at s kd.0) (declaration_sites s.names kd.1)

abbrev nodes_in : Source → Scope → ℕ × Item → List Spot
nodes_in source s kx = item_spots source s (here_at s kx.0) kx.1

abbrev standing_at : Scope → ℕ × Item → List Standing
standing_at s kx = standing_in (here_at s kx.0) kx.1

nodes_split : (source : Source) (kind : Kind) (s : Scope) → flat_map (site_faults kind) (scope_spots source s) ≡
    flat_map (site_faults kind) (flat_map (nodes_of s) (numbered_from 0 s.declarations)) ++ flat_map (site_faults kind) (flat_map (nodes_in source s) (counted_items s))
nodes_split source kind s = flat_map-append (site_faults kind) (flat_map (nodes_of s) (numbered_from 0 s.declarations)) (flat_map (nodes_in source s) (counted_items s))

item_nodes : (source : Source) (kind : Kind) (s : Scope) (x : ℕ × Item) (place : ℕ) → In x (counted_items s) → In place (flat_map (site_faults kind) (nodes_in source s x)) →
    In place (flat_map (site_faults kind) (scope_spots source s))
item_nodes source kind s x place i h = subst (λ ys. In place ys) (sym (nodes_split source kind s))
    (in-right place (flat_map (site_faults kind) (flat_map (nodes_of s) (numbered_from 0 s.declarations))) _
    (flat_over (site_faults kind) (nodes_in source s) x place (counted_items s) i h))

declaration_nodes : (source : Source) (kind : Kind) (s : Scope) (x : ℕ × Declaration) (place : ℕ) → In x (numbered_from 0 s.declarations) →
    In place (flat_map (site_faults kind) (nodes_of s x)) → In place (flat_map (site_faults kind) (scope_spots source s))
declaration_nodes source kind s x place i h = subst (λ ys. In place ys) (sym (nodes_split source kind s))
    (in-left place _ (flat_map (site_faults kind) (flat_map (nodes_in source s) (counted_items s)))
    (flat_over (site_faults kind) (nodes_of s) x place (numbered_from 0 s.declarations) i h))

no_nodes : (source : Source) (kind : Kind) (s : Scope) → ((x : ℕ × Declaration) → In x (numbered_from 0 s.declarations) → flat_map (site_faults kind) (nodes_of s x) ≡ []) →
    ((x : ℕ × Item) → In x (counted_items s) → flat_map (site_faults kind) (nodes_in source s x) ≡ []) → flat_map (site_faults kind) (scope_spots source s) ≡ []
no_nodes source kind s h k = nodes_split source kind s ∙ both_empty _ _
    (over_empty (site_faults kind) (nodes_of s) (numbered_from 0 s.declarations) h) (over_empty (site_faults kind) (nodes_in source s) (counted_items s) k)

-- ---- of an item

at_item : (f : Names → Item → List ℕ) (s : Scope) (x : ℕ × Item) (place : ℕ) → In x (counted_items s) → In place (f s.names x.1) → In place (at_items f s)
at_item f s x place i h = subst (λ ys. In place ys) (counted_same (f s.names) s.header s.items) (in-flat (λ (kx : ℕ × Item). f s.names kx.1) x place (counted_items s) i h)

in_standing : (f : Standing → List ℕ) (s : Scope) (x : ℕ × Item) (place : ℕ) → In x (counted_items s) → In place (flat_map f (standing_at s x)) →
    In place (flat_map f (scope_standing s))
in_standing f s x place i h = flat_over f (standing_at s) x place (counted_items s) i h

abbrev apart_from_nodes : Source → Kind → Scope → ℕ × Item → ℕ → Type 0
apart_from_nodes source kind s x place = In place (item_rules source kind s x) → In place (other_faults source kind s)

other_item : (source : Source) (kind : Kind) (s : Scope) (x : ℕ × Item) (place : ℕ) → In x (counted_items s) → apart_from_nodes source kind s x place
other_item source UnknownModule s x place i h = at_item (unknown_module_in source) s x place i h
other_item source UnknownName s x place i h =
    elim (in-split place (flat_map unknown_in_form (standing_at s x)) (unknown_in_item source s.names x.1) h) [
      | inl k ↦ in-left place _ (at_items (unknown_in_item source) s) (in_standing unknown_in_form s x place i k)
      | inr k ↦ in-right place (flat_map unknown_in_form (scope_standing s)) _ (at_item (unknown_in_item source) s x place i k)
    ]
other_item source Duplicate s x place i h = in-right place (flat_map (declared_again s) (numbered_from 0 s.declarations)) _ (in_standing two_defaults s x place i h)
other_item source NotConstant s x place i h = h
other_item source ZeroDivisor s x place i h = h
other_item source Range s x place i h =
    elim (in-split place (flat_map range_in_form (standing_at s x)) (range_in_item s.names x.1) h) [
      | inl k ↦ in-left place _ (at_items range_in_item s) (in-right place (flat_map (range_fault s.names) s.declarations) _ (in_standing range_in_form s x place i k))
      | inr k ↦ in-right place (flat_map (range_fault s.names) s.declarations ++ flat_map range_in_form (scope_standing s)) _ (at_item range_in_item s x place i k)
    ]
other_item source Recursion s x place i h = at_item (recursion_in source s) s x place i h
other_item source Port s x place i h =
    in-left place _ (flat_map (two_ranges s) s.declarations) (in-left place _ (port_directions s) (at_item (ports_in_item source s) s x place i h))
other_item source WrongKind s x place i h = h
other_item source ClockUse s x place i h = h
other_item source Blocking s x place i h = h
other_item source Nonblocking s x place i h = h
other_item source TwoDrivers s x place i h = h
other_item source Undriven s x place i h = h
other_item source Latch s x place i h = h
other_item source ReadFirst s x place i h = h

pub item_told : (source : Source) (kind : Kind) (s : Scope) (x : ℕ × Item) (place : ℕ) → is_scope_kind kind ≡ true → Contains (counted_items s) x →
    Contains (item_faults source kind s x) place → Contains (scope_faults source kind s) place
item_told source kind s x place e i h =
    let j : In x (counted_items s) = contains_in x (counted_items s) i in
    in_contains place (scope_faults source kind s)
    (elim (in-split place (flat_map (site_faults kind) (nodes_in source s x)) (item_rules source kind s x) (contains_in place (item_faults source kind s x) h)) [
      | inl k ↦ in-left place _ (other_faults source kind s) (item_nodes source kind s x place j k)
      | inr k ↦ in-right place (flat_map (site_faults kind) (scope_spots source s)) _ (other_item source kind s x place j k)
    ])

-- ---- of a declaration

at_declaration : (f : Declaration → List ℕ) (s : Scope) (x : ℕ × Declaration) (place : ℕ) → In x (numbered_from 0 s.declarations) → In place (f x.1) →
    In place (flat_map f s.declarations)
at_declaration f s x place i h = subst (λ ys. In place ys) (numbered_same f 0 s.declarations)
    (in-flat (λ (kx : ℕ × Declaration). f kx.1) x place (numbered_from 0 s.declarations) i h)

other_declaration : (source : Source) (kind : Kind) (s : Scope) (x : ℕ × Declaration) (place : ℕ) → In x (numbered_from 0 s.declarations) →
    In place (declaration_rules kind s x) → In place (other_faults source kind s)
other_declaration source UnknownModule s x place i h = absurd h
other_declaration source UnknownName s x place i h = absurd h
other_declaration source Duplicate s x place i h =
    in-left place _ (flat_map two_defaults (scope_standing s)) (in-flat (declared_again s) x place (numbered_from 0 s.declarations) i h)
other_declaration source NotConstant s x place i h = h
other_declaration source ZeroDivisor s x place i h = h
other_declaration source Range s x place i h =
    in-left place _ (at_items range_in_item s) (in-left place _ (flat_map range_in_form (scope_standing s)) (at_declaration (range_fault s.names) s x place i h))
other_declaration source Recursion s x place i h = absurd h
other_declaration source Port s x place i h = in-right place (at_items (ports_in_item source s) s ++ port_directions s) _ (at_declaration (two_ranges s) s x place i h)
other_declaration source WrongKind s x place i h = h
other_declaration source ClockUse s x place i h = h
other_declaration source Blocking s x place i h = h
other_declaration source Nonblocking s x place i h = h
other_declaration source TwoDrivers s x place i h = h
other_declaration source Undriven s x place i h = h
other_declaration source Latch s x place i h = h
other_declaration source ReadFirst s x place i h = h

pub declaration_told : (source : Source) (kind : Kind) (s : Scope) (x : ℕ × Declaration) (place : ℕ) → is_scope_kind kind ≡ true →
    Contains (numbered_from 0 s.declarations) x → Contains (declaration_faults kind s x) place → Contains (scope_faults source kind s) place
declaration_told source kind s x place e i h =
    let j : In x (numbered_from 0 s.declarations) = contains_in x (numbered_from 0 s.declarations) i in
    in_contains place (scope_faults source kind s)
    (elim (in-split place (flat_map (site_faults kind) (nodes_of s x)) (declaration_rules kind s x) (contains_in place (declaration_faults kind s x) h)) [
      | inl k ↦ in-left place _ (other_faults source kind s) (declaration_nodes source kind s x place j k)
      | inr k ↦ in-right place (flat_map (site_faults kind) (scope_spots source s)) _ (other_declaration source kind s x place j k)
    ])

pub direction_told : (source : Source) (s : Scope) (place : ℕ) → Contains (port_directions s) place → Contains (scope_faults source Port s) place
direction_told source s place h =
    in_contains place (scope_faults source Port s) (in-right place (flat_map (site_faults Port) (scope_spots source s)) (other_faults source Port s)
    (in-left place _ (flat_map (two_ranges s) s.declarations) (in-right place (at_items (ports_in_item source s) s) _ (contains_in place (port_directions s) h))))

-- ---- nothing is told

module _ (source : Source) (s : Scope) (items : AreFaultlessItems source s) (declared : AreFaultlessDeclarations s) where
  item_sites_none : (kind : Kind) → is_scope_kind kind ≡ true → (x : ℕ × Item) → In x (counted_items s) → flat_map (site_faults kind) (nodes_in source s x) ≡ []
  item_sites_none kind e x i = append-left _ (item_rules source kind s x) ((items.each x (in_contains x (counted_items s) i)).none kind e)

  item_rules_none : (kind : Kind) → is_scope_kind kind ≡ true → (x : ℕ × Item) → In x (counted_items s) → item_rules source kind s x ≡ []
  item_rules_none kind e x i = append-right (flat_map (site_faults kind) (nodes_in source s x)) _ ((items.each x (in_contains x (counted_items s) i)).none kind e)

  declared_none : (kind : Kind) → is_scope_kind kind ≡ true → (x : ℕ × Declaration) → In x (numbered_from 0 s.declarations) → flat_map (site_faults kind) (nodes_of s x) ≡ []
  declared_none kind e x i = append-left _ (declaration_rules kind s x) (declared.each kind x e (in_contains x (numbered_from 0 s.declarations) i))

  declared_rules_none : (kind : Kind) → is_scope_kind kind ≡ true → (x : ℕ × Declaration) → In x (numbered_from 0 s.declarations) → declaration_rules kind s x ≡ []
  declared_rules_none kind e x i =
      append-right (flat_map (site_faults kind) (nodes_of s x)) _ (declared.each kind x e (in_contains x (numbered_from 0 s.declarations) i))

  items_none : (f : Names → Item → List ℕ) → ((x : ℕ × Item) → In x (counted_items s) → f s.names x.1 ≡ []) → at_items f s ≡ []
  items_none f h = sym (counted_same (f s.names) s.header s.items) ∙ flat_empty (λ (kx : ℕ × Item). f s.names kx.1) (counted_items s) h

  declarations_none : (f : Declaration → List ℕ) → ((x : ℕ × Declaration) → In x (numbered_from 0 s.declarations) → f x.1 ≡ []) → flat_map f s.declarations ≡ []
  declarations_none f h = sym (numbered_same f 0 s.declarations) ∙ flat_empty (λ (kx : ℕ × Declaration). f kx.1) (numbered_from 0 s.declarations) h

  standing_none : (f : Standing → List ℕ) → ((x : ℕ × Item) → In x (counted_items s) → flat_map f (standing_at s x) ≡ []) → flat_map f (scope_standing s) ≡ []
  standing_none f h = over_empty f (standing_at s) (counted_items s) h

  others_none : (kind : Kind) → is_scope_kind kind ≡ true → other_faults source kind s ≡ []
  others_none UnknownModule e = items_none (unknown_module_in source) (item_rules_none UnknownModule e)
  others_none UnknownName e = both_empty _ _
      (standing_none unknown_in_form (λ x i. append-left _ (unknown_in_item source s.names x.1) (item_rules_none UnknownName e x i)))
      (items_none (unknown_in_item source) (λ x i. append-right (flat_map unknown_in_form (standing_at s x)) _ (item_rules_none UnknownName e x i)))
  others_none Duplicate e = both_empty _ _ (flat_empty (declared_again s) (numbered_from 0 s.declarations) (declared_rules_none Duplicate e))
      (standing_none two_defaults (item_rules_none Duplicate e))
  others_none NotConstant e = refl
  others_none ZeroDivisor e = refl
  others_none Range e = both_empty _ _ (both_empty _ _ (declarations_none (range_fault s.names) (declared_rules_none Range e))
      (standing_none range_in_form (λ x i. append-left _ (range_in_item s.names x.1) (item_rules_none Range e x i))))
      (items_none range_in_item (λ x i. append-right (flat_map range_in_form (standing_at s x)) _ (item_rules_none Range e x i)))
  others_none Recursion e = items_none (recursion_in source s) (item_rules_none Recursion e)
  others_none Port e = both_empty _ _ (both_empty _ _ (items_none (ports_in_item source s) (item_rules_none Port e)) declared.directions)
      (declarations_none (two_ranges s) (declared_rules_none Port e))
  others_none WrongKind e = refl
  others_none ClockUse e = refl
  others_none Blocking e = refl
  others_none Nonblocking e = refl
  others_none TwoDrivers e = refl
  others_none Undriven e = refl
  others_none Latch e = refl
  others_none ReadFirst e = refl

  faultless_by : IsFaultless source s
  faultless_by = record { none = λ kind e. both_empty _ _ (no_nodes source kind s (declared_none kind e) (item_sites_none kind e)) (others_none kind e) }

pub faultless : (source : Source) (s : Scope) → AreFaultlessItems source s → AreFaultlessDeclarations s → IsFaultless source s
faultless source s items declared = faultless_by source s items declared
