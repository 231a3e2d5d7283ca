-- The faults of nodes, scopes, parts and of the whole design are what is refused.
use Rattle.std.proofs.Common.{◌≡◌, ◌↔◌, inl, inr, ℕ, List, [], ◌∷◌, ◌++◌, map, append_assoc, refl, sym, ap, ◌∙◌, subst}
use Rattle.std.specs.Prelude.{flat_map, Contains}
use Rattle.lv_ast.specs.declared.item.Source.{Source}
use Rattle.lv_source.specs.Scopes.{Scope}
use Rattle.lv_source.specs.Parts.{Design, Part, At, parts, scopes_of, numbered_from}
use Rattle.lv_source.specs.Sites.{Spot}
use Rattle.lv_source.specs.ScopeRules as r
use Rattle.lv_source.specs.Legal.{Kind, UnknownModule, UnknownName, Duplicate, NotConstant, ZeroDivisor, Range, Recursion, Port, WrongKind, ClockUse, Blocking, Nonblocking, TwoDrivers, Undriven, Latch, ReadFirst, places_of, HoldsAt, in_scopes, at_parts}
use Rattle.lv_source.specs.Faults.{site_faults, other_faults, scope_faults, design_faults, part_faults, faults}
use Rattle.lv_source.proofs.Summaries.{append-none}
use Rattle.lv_source.proofs.Refused.{In, in_contains, contains_in, in-left, in-right}

abbrev none_of : {A B : Type 0} → A → List B
none_of x = []

flat-none : {A B : Type 0} (xs : List A) → flat_map (none_of {A = A} {B = B}) xs ≡ []
flat-none [] = refl
flat-none (x ∷ xs) = flat-none xs

two : {A B C : Type 0} (f : A → B → C) (x y : A) (u v : B) → x ≡ y → u ≡ v → f x u ≡ f y v
two f x y u v h k = ap (λ z. f z u) h ∙ ap (λ z. f y z) k

abbrev pub at_of : Scope → ℕ → At
at_of s place = record { path = s.path; place = place }

alike_over : (f g : Scope → List ℕ) → ((s : Scope) → f s ≡ g s) → (ss : List Scope) → flat_map (λ (s : Scope). map (at_of s) (f s)) ss ≡ flat_map (λ (s : Scope). map (at_of s) (g s)) ss
alike_over f g h [] = refl
alike_over f g h (s ∷ ss) = two (λ (a b : List At). a ++ b) _ _ _ _ (ap (map (at_of s)) (h s)) (alike_over f g h ss)

-- in the scopes, where each has the same
alike_in : (d : Design) (f g : Scope → List ℕ) → ((s : Scope) → f s ≡ g s) → in_scopes d f ≡ in_scopes d g
alike_in d f g h = alike_over f g h (scopes_of d)

no_sites : (d : Design) (f : Scope → List ℕ) → in_scopes d (λ s. flat_map (none_of {A = Spot} {B = ℕ}) (r.scope_spots d.source s) ++ f s) ≡ in_scopes d f
no_sites d f = alike_in d _ f (λ s. ap (λ (ns : List ℕ). ns ++ f s) (flat-none (r.scope_spots d.source s)))

no_more : (d : Design) (f : Scope → List ℕ) → in_scopes d (λ s. f s ++ []) ≡ in_scopes d f
no_more d f = alike_in d _ f (λ s. append-none (f s))

no_scopes : (d : Design) → in_scopes d (λ s. flat_map (none_of {A = Spot} {B = ℕ}) (r.scope_spots d.source s) ++ []) ≡ []
no_scopes d = no_sites d (λ s. []) ∙ flat-none (scopes_of d)

no_parts : (d : Design) → at_parts d (λ ps k q. []) ≡ []
no_parts d = flat-none (numbered_from 0 (parts d))

-- of scopes alone, of parts alone, and of both
of_scopes : (d : Design) (xs : List At) (f g : Scope → List ℕ) → in_scopes d f ≡ in_scopes d g → xs ++ in_scopes d f ++ at_parts d (λ ps k q. []) ≡ xs ++ in_scopes d g
of_scopes d xs f g h = two (λ (a b : List At). a ++ b) _ _ _ _ (ap (λ ys. xs ++ ys) h) (no_parts d) ∙ append-none (xs ++ in_scopes d g)

of_parts : (d : Design) (f : List Part → ℕ → Part → List At) → in_scopes d (λ s. flat_map (none_of {A = Spot} {B = ℕ}) (r.scope_spots d.source s) ++ []) ++ at_parts d f ≡ at_parts d f
of_parts d f = ap (λ xs. xs ++ at_parts d f) (no_scopes d)

range_order : (a b c e : List ℕ) → a ++ ((b ++ c) ++ e) ≡ ((a ++ b) ++ c) ++ e
range_order a b c e = sym (append_assoc a (b ++ c) e) ∙ ap (λ xs. xs ++ e) (sym (append_assoc a b c))

pub faults_are : (d : Design) (kind : Kind) → faults d kind ≡ places_of d kind
unfolding places_of
faults_are d UnknownModule = of_scopes d _ _ (r.unknown_modules d.source) (no_sites d (r.unknown_modules d.source))
faults_are d UnknownName = of_scopes d [] (scope_faults d.source UnknownName) (r.unknown_names d.source) (alike_in d (scope_faults d.source UnknownName) (r.unknown_names d.source) (λ s.
    sym (append_assoc (flat_map (site_faults UnknownName) (r.scope_spots d.source s)) (flat_map r.unknown_in_form (r.scope_standing s)) (r.at_items (r.unknown_in_item d.source) s))))
faults_are d Duplicate = of_scopes d _ _ r.duplicates (no_sites d r.duplicates)
faults_are d NotConstant = ap (λ xs. xs ++ at_parts d (part_faults d NotConstant)) (no_more d (r.not_constants d.source))
faults_are d ZeroDivisor = of_scopes d [] _ (r.zero_divisors d.source) (no_more d (r.zero_divisors d.source))
faults_are d Range = of_scopes d [] (scope_faults d.source Range) (r.ranges d.source) (alike_in d (scope_faults d.source Range) (r.ranges d.source) (λ s.
    range_order (flat_map (site_faults Range) (r.scope_spots d.source s)) (flat_map (r.range_fault s.names) s.declarations) (flat_map r.range_in_form (r.scope_standing s)) (r.at_items r.range_in_item s)))
faults_are d Recursion = of_scopes d [] _ (r.recursions d.source) (no_sites d (r.recursions d.source))
faults_are d Port = of_scopes d [] _ (r.ports d.source) (no_sites d (r.ports d.source))
faults_are d WrongKind = of_parts d (part_faults d WrongKind)
faults_are d ClockUse = ap (λ xs. (design_faults d ClockUse ++ xs) ++ at_parts d (part_faults d ClockUse)) (no_more d (r.clock_uses d.source))
faults_are d Blocking = of_parts d (part_faults d Blocking)
faults_are d Nonblocking = of_parts d (part_faults d Nonblocking)
faults_are d TwoDrivers = of_parts d (part_faults d TwoDrivers)
faults_are d Undriven = of_parts d (part_faults d Undriven)
faults_are d Latch = of_parts d (part_faults d Latch)
faults_are d ReadFirst = of_parts d (part_faults d ReadFirst)

-- ---- a refusal is one membership

pub in-flat : {A B : Type 0} (f : A → List B) (x : A) (y : B) (xs : List A) → In x xs → In y (f x) → In y (flat_map f xs)
in-flat f x y [] h k = absurd h
in-flat f x y (z ∷ zs) (inl e) k = in-left y (f z) (flat_map f zs) (subst (λ w. In y (f w)) (sym e) k)
in-flat f x y (z ∷ zs) (inr h) k = in-right y (f z) (flat_map f zs) (in-flat f x y zs h k)

in-mapped : {A B : Type 0} (f : A → B) (x : A) (xs : List A) → In x xs → In (f x) (map f xs)
in-mapped f x [] h = absurd h
in-mapped f x (y ∷ ys) (inl e) = inl (ap f e)
in-mapped f x (y ∷ ys) (inr h) = inr (in-mapped f x ys h)

holds_by : (d : Design) (kind : Kind) (at : At) → In at (faults d kind) → HoldsAt d kind at
holds_by d kind at h = record { found = in_contains at (places_of d kind) (subst (λ (ats : List At). In at ats) (faults_are d kind) h) }

-- a fault of the design as a whole
pub design_told : (d : Design) (kind : Kind) (at : At) → Contains (design_faults d kind) at → HoldsAt d kind at
design_told d kind at h = holds_by d kind at (in-left at _ (at_parts d (part_faults d kind)) (in-left at (design_faults d kind) (in_scopes d (scope_faults d.source kind)) (contains_in at (design_faults d kind) h)))

-- a fault of a scope, at its path
pub scope_told : (d : Design) (kind : Kind) (s : Scope) (place : ℕ) → Contains (scopes_of d) s → Contains (scope_faults d.source kind s) place →
    HoldsAt d kind (record { path = s.path; place = place })
scope_told d kind s place h k =
    holds_by d kind (at_of s place) (in-left (at_of s place) _ (at_parts d (part_faults d kind))
    (in-right (at_of s place) (design_faults d kind) (in_scopes d (scope_faults d.source kind))
    (in-flat (λ (s : Scope). map (at_of s) (scope_faults d.source kind s)) s (at_of s place) (scopes_of d) (contains_in s (scopes_of d) h)
    (in-mapped (at_of s) place (scope_faults d.source kind s) (contains_in place (scope_faults d.source kind s) k)))))

-- a fault of a node, in its scope
pub site_told : (source : Source) (kind : Kind) (s : Scope) (x : Spot) (place : ℕ) → Contains (r.scope_spots source s) x → Contains (site_faults kind x) place →
    Contains (scope_faults source kind s) place
site_told source kind s x place h k =
    in_contains place (scope_faults source kind s) (in-left place (flat_map (site_faults kind) (r.scope_spots source s)) (other_faults source kind s)
    (in-flat (site_faults kind) x place (r.scope_spots source s) (contains_in x (r.scope_spots source s) h) (contains_in place (site_faults kind x) k)))

pub other_told : (source : Source) (kind : Kind) (s : Scope) (place : ℕ) → Contains (other_faults source kind s) place → Contains (scope_faults source kind s) place
other_told source kind s place h =
    in_contains place (scope_faults source kind s) (in-right place (flat_map (site_faults kind) (r.scope_spots source s)) (other_faults source kind s) (contains_in place (other_faults source kind s) h))

-- ---- no fault

pub append-left : {A : Type 0} (xs ys : List A) → xs ++ ys ≡ [] → xs ≡ []
append-left [] ys h = refl
append-left (x ∷ xs) ys h = cc

pub append-right : {A : Type 0} (xs ys : List A) → xs ++ ys ≡ [] → ys ≡ []
append-right [] ys h = h
append-right (x ∷ xs) ys h = cc

mapped-none : {A B : Type 0} (f : A → B) (xs : List A) → map f xs ≡ [] → xs ≡ []
mapped-none f [] h = refl
mapped-none f (x ∷ xs) h = cc

pub record IsClean (d : Design) (kind : Kind) : Type 0 where
  pub whole : design_faults d kind ≡ []
  pub scopes : (s : Scope) → Contains (scopes_of d) s → scope_faults d.source kind s ≡ []
  pub parts : at_parts d (part_faults d kind) ≡ []

pub scopes_clean : (f : Scope → List ℕ) (ss : List Scope) → flat_map (λ (s : Scope). map (at_of s) (f s)) ss ≡ [] → (s : Scope) → In s ss → f s ≡ []
scopes_clean f [] h s i = absurd i
scopes_clean f (t ∷ ss) h s (inl e) = subst (λ (s : Scope). f s ≡ []) e (mapped-none (at_of t) (f t) (append-left (map (at_of t) (f t)) _ h))
scopes_clean f (t ∷ ss) h s (inr i) = scopes_clean f ss (append-right (map (at_of t) (f t)) _ h) s i

clean_scopes : (f : Scope → List ℕ) (ss : List Scope) → ((s : Scope) → In s ss → f s ≡ []) → flat_map (λ (s : Scope). map (at_of s) (f s)) ss ≡ []
clean_scopes f [] h = refl
clean_scopes f (t ∷ ss) h =
    ap (λ ns. map (at_of t) ns ++ flat_map (λ (s : Scope). map (at_of s) (f s)) ss) (h t (inl refl)) ∙ clean_scopes f ss (λ s i. h s (inr i))

-- a kind holds nowhere exactly where it is no fault of the design, of any scope and of any part
pub clean_is : (d : Design) (kind : Kind) → (places_of d kind ≡ []) ↔ IsClean d kind
clean_is d kind = (
  (λ h. (let e : faults d kind ≡ [] = faults_are d kind ∙ h in
      let front : design_faults d kind ++ in_scopes d (scope_faults d.source kind) ≡ [] = append-left _ (at_parts d (part_faults d kind)) e in
      record {
        whole = append-left (design_faults d kind) _ front;
        scopes = λ s i. scopes_clean (scope_faults d.source kind) (scopes_of d) (append-right (design_faults d kind) _ front) s (contains_in s (scopes_of d) i);
        parts = append-right (design_faults d kind ++ in_scopes d (scope_faults d.source kind)) _ e;
      })),
  (λ h. sym (faults_are d kind) ∙
      two (λ (a b : List At). a ++ b) _ _ _ _
      (two (λ (a b : List At). a ++ b) _ _ _ _ h.whole (clean_scopes (scope_faults d.source kind) (scopes_of d) (λ s i. h.scopes s (in_contains s (scopes_of d) i)))) h.parts),
)
