-- Lists of which each element stands in a relation to each later one.
use Rattle.std.proofs.Common.{◌≡◌, inl, inr, Bool, true, false, List, [], ◌∷◌, ◌++◌, map, refl, subst}
use Rattle.std.specs.Prelude.{flat_map, filter, cond}
use Rattle.lv_source.proofs.Refused.{In, in-split}
use Rattle.lv_source.proofs.Trees.{in-from}
use Rattle.lv_source.proofs.Kids.{mapped-from}

abbrev pub Apart : {A : Type 0} → (A → A → Type 0) → List A → Type 0
Apart R [] = Unit {0}
Apart {A} R (x ∷ xs) = ((y : A) → In y xs → R x y) × Apart R xs

pub apart-join : {A : Type 0} (R : A → A → Type 0) (xs ys : List A) → Apart R xs → Apart R ys → ((x y : A) → In x xs → In y ys → R x y) → Apart R (xs ++ ys)
apart-join R [] ys h k f = k
apart-join R (x ∷ xs) ys h k f =
    ((λ y i. elim (in-split y xs ys i) [ inl a ↦ h.0 y a | inr a ↦ f x y (inl refl) a ]), apart-join R xs ys h.1 k (λ a b i j. f a b (inr i) j))

pub apart-imp : {A : Type 0} (R Q : A → A → Type 0) (xs : List A) → ((x y : A) → In x xs → In y xs → R x y → Q x y) → Apart R xs → Apart Q xs
apart-imp R Q [] f h = tt
apart-imp R Q (x ∷ xs) f h = ((λ y i. f x y (inl refl) (inr i) (h.0 y i)), apart-imp R Q xs (λ a b i j. f a b (inr i) (inr j)) h.1)

pub apart-map : {A B : Type 0} (R : B → B → Type 0) (f : A → B) (xs : List A) → Apart (λ x y. R (f x) (f y)) xs → Apart R (map f xs)
apart-map R f [] h = tt
apart-map R f (x ∷ xs) h =
    ((λ y i. (let r : (z : _) × In z xs × (f z ≡ y) = mapped-from f y xs i in subst (λ w. R (f x) w) r.2 (h.0 r.0 r.1))), apart-map R f xs h.1)

pub apart-flat : {A B : Type 0} (R : B → B → Type 0) (f : A → List B) (xs : List A) → ((x : A) → In x xs → Apart R (f x)) → Apart (λ x y. (a b : B) → In a (f x) → In b (f y) → R a b) xs →
    Apart R (flat_map f xs)
apart-flat R f [] h k = tt
apart-flat R f (x ∷ xs) h k =
    apart-join R (f x) (flat_map f xs) (h x (inl refl)) (apart-flat R f xs (λ y i. h y (inr i)) k.1)
    (λ a b i j. (let r : (y : _) × In y xs × In b (f y) = in-from f b xs j in k.0 r.0 r.1 a b i r.2))

pub in-filter : {A : Type 0} (q : A → Bool) (y : A) (xs : List A) → In y (filter q xs) → In y xs × (q y ≡ true)
in-filter q y [] h = absurd h
in-filter q y (x ∷ xs) h = elim (q x) as (λ b. q x ≡ b → In y (cond b (x ∷ filter q xs) (filter q xs)) → In y (x ∷ xs) × (q y ≡ true)) [
  | true ↦ λ e i. elim i [
    | inl k ↦ (inl k, subst (λ z. q z ≡ true) k e)
    | inr k ↦ (let r : In y xs × (q y ≡ true) = in-filter q y xs k in (inr r.0, r.1))
  ]
  | false ↦ λ e i. (let r : In y xs × (q y ≡ true) = in-filter q y xs i in (inr r.0, r.1))
] refl h

pub apart-filter : {A : Type 0} (R : A → A → Type 0) (q : A → Bool) (xs : List A) → Apart R xs → Apart R (filter q xs)
apart-filter R q [] h = tt
apart-filter R q (x ∷ xs) h = elim (q x) as (λ b. Apart R (cond b (x ∷ filter q xs) (filter q xs))) [
  | true ↦ ((λ y i. h.0 y (in-filter q y xs i).0), apart-filter R q xs h.1)
  | false ↦ apart-filter R q xs h.1
]
