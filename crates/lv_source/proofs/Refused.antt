-- The list of all refusals has each kind exactly where it holds.
use Rattle.std.proofs.Common.{◌≡◌, ◌⊎◌, inl, inr, ℕ, zero, suc, ◌<◌, List, [], ◌∷◌, ◌++◌, length, map, refl, sym, ap, subst, arith}
use Rattle.std.specs.Prelude.{flat_map, Contains, ◌↔◌}
use Rattle.std.specs.List.{slice_index_or}
use Rattle.lv_source.specs.Parts.{Design, At}
use Rattle.lv_source.specs.Legal.{Kind, Refusal, HoldsAt, refusals, places_of, kinds, UnknownModule, UnknownName, Duplicate, NotConstant, ZeroDivisor, Range, Recursion, Port, WrongKind, ClockUse, Blocking, Nonblocking, TwoDrivers, Undriven, Latch, ReadFirst}

-- an element, by recursion on the list
abbrev pub In : {A : Type 0} → A → List A → Type 0
In x [] = ⊥
In x (y ∷ ys) = (y ≡ x) ⊎ In x ys

pub in_contains : {A : Type 0} (x : A) (xs : List A) → In x xs → Contains xs x
in_contains x [] h = absurd h
in_contains x (y ∷ ys) (inl e) = (0, (omega arith), e)
in_contains x (y ∷ ys) (inr h) = let k : Contains ys x = in_contains x ys h in (suc k.0, (omega arith), k.2)

contains_by : {A : Type 0} (x : A) (xs : List A) (k : ℕ) → k < length xs → slice_index_or xs k x ≡ x → In x xs
contains_by x [] k h e = absurd (omega arith)
contains_by x (y ∷ ys) zero h e = inl e
contains_by x (y ∷ ys) (suc k) h e = inr (contains_by x ys k (omega arith) e)

pub contains_in : {A : Type 0} (x : A) (xs : List A) → Contains xs x → In x xs
contains_in x xs h = contains_by x xs h.0 h.1 h.2

pub in-left : {A : Type 0} (x : A) (xs ys : List A) → In x xs → In x (xs ++ ys)
in-left x [] ys h = absurd h
in-left x (y ∷ xs) ys (inl e) = inl e
in-left x (y ∷ xs) ys (inr h) = inr (in-left x xs ys h)

pub in-right : {A : Type 0} (x : A) (xs ys : List A) → In x ys → In x (xs ++ ys)
in-right x [] ys h = h
in-right x (y ∷ xs) ys h = inr (in-right x xs ys h)

pub in-split : {A : Type 0} (x : A) (xs ys : List A) → In x (xs ++ ys) → In x xs ⊎ In x ys
in-split x [] ys h = inr h
in-split x (y ∷ xs) ys (inl e) = inl (inl e)
in-split x (y ∷ xs) ys (inr h) = elim (in-split x xs ys h) [ inl k ↦ inl (inr k) | inr k ↦ inr k ]

-- the places of one kind
there : (kind k : Kind) (at : At) (ats : List At) → In (record { kind = kind; at = at }) (map (λ (at : At). let r : Refusal = record { kind = k; at = at } in r) ats) → (k ≡ kind) × In at ats
there kind k at [] h = absurd h
there kind k at (a ∷ ats) (inl e) = (ap (λ (r : Refusal). r.kind) e, inl (ap (λ (r : Refusal). r.at) e))
there kind k at (a ∷ ats) (inr h) = let rest : (k ≡ kind) × In at ats = there kind k at ats h in (rest.0, inr rest.1)

here : (kind : Kind) (at : At) (ats : List At) → In at ats → In (record { kind = kind; at = at }) (map (λ (at : At). let r : Refusal = record { kind = kind; at = at } in r) ats)
here kind at [] h = absurd h
here kind at (a ∷ ats) (inl e) = inl (ap (λ (at : At). let r : Refusal = record { kind = kind; at = at } in r) e)
here kind at (a ∷ ats) (inr h) = inr (here kind at ats h)

abbrev listed : Design → Kind → List Refusal
listed d k = map (λ (at : At). let r : Refusal = record { kind = k; at = at } in r) (places_of d k)

from_kinds : (d : Design) (kind : Kind) (at : At) (ks : List Kind) → In (record { kind = kind; at = at }) (flat_map (listed d) ks) → In at (places_of d kind)
from_kinds d kind at [] h = absurd h
from_kinds d kind at (k ∷ ks) h = elim (in-split (record { kind = kind; at = at }) (listed d k) (flat_map (listed d) ks) h) [
  | inl x ↦ (let y : (k ≡ kind) × In at (places_of d k) = there kind k at (places_of d k) x in subst (λ (k : Kind). In at (places_of d k)) y.0 y.1)
  | inr x ↦ from_kinds d kind at ks x
]

to_kinds : (d : Design) (kind : Kind) (at : At) (ks : List Kind) → In kind ks → In at (places_of d kind) → In (record { kind = kind; at = at }) (flat_map (listed d) ks)
to_kinds d kind at [] h p = absurd h
to_kinds d kind at (k ∷ ks) (inl e) p = in-left (record { kind = kind; at = at }) (listed d k) (flat_map (listed d) ks)
    (subst (λ (k : Kind). In (record { kind = kind; at = at }) (listed d k)) (sym e) (here kind at (places_of d kind) p))
to_kinds d kind at (k ∷ ks) (inr h) p = in-right (record { kind = kind; at = at }) (listed d k) (flat_map (listed d) ks) (to_kinds d kind at ks h p)

each_kind : (kind : Kind) → In kind kinds
each_kind UnknownModule = inl refl
each_kind UnknownName = inr (inl refl)
each_kind Duplicate = inr (inr (inl refl))
each_kind NotConstant = inr (inr (inr (inl refl)))
each_kind ZeroDivisor = inr (inr (inr (inr (inl refl))))
each_kind Range = inr (inr (inr (inr (inr (inl refl)))))
each_kind Recursion = inr (inr (inr (inr (inr (inr (inl refl))))))
each_kind Port = inr (inr (inr (inr (inr (inr (inr (inl refl)))))))
each_kind WrongKind = inr (inr (inr (inr (inr (inr (inr (inr (inl refl))))))))
each_kind ClockUse = inr (inr (inr (inr (inr (inr (inr (inr (inr (inl refl)))))))))
each_kind Blocking = inr (inr (inr (inr (inr (inr (inr (inr (inr (inr (inl refl))))))))))
each_kind Nonblocking = inr (inr (inr (inr (inr (inr (inr (inr (inr (inr (inr (inl refl)))))))))))
each_kind TwoDrivers = inr (inr (inr (inr (inr (inr (inr (inr (inr (inr (inr (inr (inl refl))))))))))))
each_kind Undriven = inr (inr (inr (inr (inr (inr (inr (inr (inr (inr (inr (inr (inr (inl refl)))))))))))))
each_kind Latch = inr (inr (inr (inr (inr (inr (inr (inr (inr (inr (inr (inr (inr (inr (inl refl))))))))))))))
each_kind ReadFirst = inr (inr (inr (inr (inr (inr (inr (inr (inr (inr (inr (inr (inr (inr (inr (inl refl)))))))))))))))

pub refused_where : (d : Design) (kind : Kind) (at : At) → HoldsAt d kind at ↔ Contains (refusals d) (record { kind = kind; at = at })
refused_where d kind at = (
  (λ h. in_contains (record { kind = kind; at = at }) (refusals d) (to_kinds d kind at kinds (each_kind kind) (contains_in at (places_of d kind) h.found))),
  (λ h. record { found = in_contains at (places_of d kind) (from_kinds d kind at kinds (contains_in (record { kind = kind; at = at }) (refusals d) h)) }),
)
