-- Lists: what is told of each element, and of some.
use Rattle.std.proofs.Common.{◌≡◌, ℕ, zero, suc, ◌+◌, ◌<◌, Bool, true, false, ◌&&◌, ◌||◌, List, [], ◌∷◌, ◌++◌, length, take, drop, get_or, refl, ap, sym, subst, ◌∙◌, inl, inr, arith, Some}
use Rattle.std.specs.Prelude.{flat_map, filter, cond, slice_get, Contains}
use Rattle.std.specs.List.{list_any}
use Rattle.std.proofs.lemmas.List.Elements.{Contains-append_left, Contains-append_right}
use Rattle.std.proofs.lemmas.List.Folds.{list_any-append, list_any_more}
use Rattle.lv_source.proofs.Tests.{decide, or-left, or-right, or-split}

pub same_tests : (a b : Bool) → (a ≡ true → b ≡ true) → (b ≡ true → a ≡ true) → a ≡ b
same_tests true b f g = sym (f refl)
same_tests false true f g = g refl
same_tests false false f g = refl

pub not_both : (a : Bool) → a ≡ true → a ≡ false → ⊥
not_both a h k = cc

-- ---- some element

pub record IsSome {X : Type 0} (p : X → Bool) (xs : List X) : Type 0 where
  pub at : ℕ
  pub item : X
  pub there : slice_get xs at ≡ Some item
  pub holds : p item ≡ true

pub some_of : {X : Type 0} (p : X → Bool) (xs : List X) → list_any p xs ≡ true → IsSome p xs
some_of p [] h = cc
some_of p (x ∷ xs) h = elim (or-split (p x) (list_any p xs) h) [
  | inl e ↦ record { at = 0; item = x; there = refl; holds = e }
  | inr e ↦ let r : IsSome p xs = some_of p xs e in record { at = suc r.at; item = r.item; there = r.there; holds = r.holds }
]

pub any_of : {X : Type 0} (p : X → Bool) (xs : List X) (k : ℕ) (x : X) → slice_get xs k ≡ Some x → p x ≡ true → list_any p xs ≡ true
any_of p [] k x e h = cc
any_of p (y ∷ xs) zero x e h = or-left (p y) (list_any p xs) (let q : y ≡ x = cc in ap p q ∙ h)
any_of p (y ∷ xs) (suc k) x e h = or-right (p y) (list_any p xs) (any_of p xs k x e h)

pub any_none : {X : Type 0} (p : X → Bool) (xs : List X) → ((k : ℕ) (x : X) → slice_get xs k ≡ Some x → p x ≡ false) → list_any p xs ≡ false
any_none p [] h = refl
any_none p (x ∷ xs) h = ap (λ b. b || list_any p xs) (h 0 x refl) ∙ any_none p xs (λ k. h (suc k))

pub any_more : {X : Type 0} (p q : X → Bool) (xs : List X) → ((x : X) → p x ≡ true → q x ≡ true) → list_any p xs ≡ true → list_any q xs ≡ true
any_more p q xs f h = let r : IsSome p xs = some_of p xs h in any_of q xs r.at r.item r.there (f r.item r.holds)

pub any_alike : {X : Type 0} (p q : X → Bool) (xs : List X) → ((k : ℕ) (x : X) → slice_get xs k ≡ Some x → p x ≡ q x) → list_any p xs ≡ list_any q xs
any_alike p q [] h = refl
any_alike p q (x ∷ xs) h = ap (λ b. b || list_any p xs) (h 0 x refl) ∙ ap (λ b. q x || b) (any_alike p q xs (λ k. h (suc k)))

pub any_flat : {X Y : Type 0} (p : Y → Bool) (f : X → List Y) (xs : List X) → list_any p (flat_map f xs) ≡ list_any (λ x. list_any p (f x)) xs
any_flat p f [] = refl
any_flat p f (x ∷ xs) = list_any-append p (f x) (flat_map f xs) ∙ ap (λ b. list_any p (f x) || b) (any_flat p f xs)

one_kept : {X : Type 0} (p q : X → Bool) (c : Bool) (x : X) (xs : List X) → p x ≡ c → list_any q (cond c (x ∷ xs) xs) ≡ (c && q x || list_any q xs)
one_kept p q true x xs e = refl
one_kept p q false x xs e = refl

pub any_filter : {X : Type 0} (p q : X → Bool) (xs : List X) → list_any q (filter p xs) ≡ list_any (λ x. p x && q x) xs
any_filter p q [] = refl
any_filter p q (x ∷ xs) = one_kept p q (p x) x (filter p xs) refl ∙ ap (λ b. p x && q x || b) (any_filter p q xs)

-- ---- what is told of the elements

pub flat_none : {X Y : Type 0} (f : X → List Y) (xs : List X) → ((k : ℕ) (x : X) → slice_get xs k ≡ Some x → f x ≡ []) → flat_map f xs ≡ []
flat_none f [] h = refl
flat_none f (x ∷ xs) h = ap (λ ys. ys ++ flat_map f xs) (h 0 x refl) ∙ flat_none f xs (λ k. h (suc k))

pub flat_has : {X Y : Type 0} (f : X → List Y) (xs : List X) (k : ℕ) (x : X) (y : Y) → slice_get xs k ≡ Some x → Contains (f x) y → Contains (flat_map f xs) y
flat_has f [] k x y e h = cc
flat_has f (z ∷ xs) zero x y e h = let q : x ≡ z = cc in Contains-append_left (f z) (flat_map f xs) y (subst (λ w. Contains (f w) y) q h)
flat_has f (z ∷ xs) (suc k) x y e h = Contains-append_right (f z) (flat_map f xs) y (flat_has f xs k x y e h)

pub filter_none : {X : Type 0} (p : X → Bool) (xs : List X) → ((k : ℕ) (x : X) → slice_get xs k ≡ Some x → p x ≡ false) → filter p xs ≡ []
filter_none p [] h = refl
filter_none p (x ∷ xs) h = ap (λ c. cond c (x ∷ filter p xs) (filter p xs)) (h 0 x refl) ∙ filter_none p xs (λ k. h (suc k))

kept_has : {X Y : Type 0} (f : X → List Y) (c : Bool) (z : X) (zs : List X) (y : Y) → Contains (flat_map f zs) y → Contains (flat_map f (cond c (z ∷ zs) zs)) y
kept_has f true z zs y h = Contains-append_right (f z) (flat_map f zs) y h
kept_has f false z zs y h = h

pub filter_has : {X Y : Type 0} (f : X → List Y) (p : X → Bool) (xs : List X) (k : ℕ) (x : X) (y : Y) → slice_get xs k ≡ Some x → p x ≡ true → Contains (f x) y
    → Contains (flat_map f (filter p xs)) y
filter_has f p [] k x y e q h = cc
filter_has f p (z ∷ xs) zero x y e q h =
    let r : x ≡ z = cc in
    subst (λ c. Contains (flat_map f (cond c (z ∷ filter p xs) (filter p xs))) y) (sym q ∙ ap p r)
    (Contains-append_left (f z) (flat_map f (filter p xs)) y (subst (λ w. Contains (f w) y) r h))
filter_has f p (z ∷ xs) (suc k) x y e q h = kept_has f (p z) z (filter p xs) y (filter_has f p xs k x y e q h)

-- ---- so far

-- each element before n is so
pub record Before {X : Type 0} (P : X → Type 0) (xs : List X) (n : ℕ) : Type 0 where
  pub each : (k : ℕ) (x : X) → k < n → slice_get xs k ≡ Some x → P x

pub before_none : {X : Type 0} (P : X → Type 0) (xs : List X) → Before P xs 0
before_none P xs = record { each = λ k x l e. absurd (omega arith) }

-- ---- the front of a list

pub record IsFront {X : Type 0} (xs : List X) (n k : ℕ) (x : X) : Type 0 where
  pub below : k < n
  pub there : slice_get xs k ≡ Some x

pub take_get : {X : Type 0} (xs : List X) (n k : ℕ) (x : X) → slice_get (take n xs) k ≡ Some x → IsFront xs n k x
take_get xs zero k x e = cc
take_get [] (suc n) k x e = cc
take_get (y ∷ xs) (suc n) zero x e = record { below = omega arith; there = e }
take_get (y ∷ xs) (suc n) (suc k) x e = let r : IsFront xs n k x = take_get xs n k x e in let l : k < n = r.below in record { below = omega arith; there = r.there }

pub get_take : {X : Type 0} (xs : List X) (n k : ℕ) (x : X) → k < n → slice_get xs k ≡ Some x → slice_get (take n xs) k ≡ Some x
get_take xs zero k x l e = absurd (omega arith)
get_take [] (suc n) k x l e = cc
get_take (y ∷ xs) (suc n) zero x l e = e
get_take (y ∷ xs) (suc n) (suc k) x l e = get_take xs n k x (omega arith) e

pub drop_get : {X : Type 0} (xs : List X) (n k : ℕ) (x : X) → slice_get (drop n xs) k ≡ Some x → slice_get xs (n + k) ≡ Some x
drop_get xs zero k x e = let d : k ≡ 0 + k = omega arith in ap (slice_get xs) (sym d) ∙ e
drop_get [] (suc n) k x e = cc
drop_get (y ∷ xs) (suc n) k x e = let d : suc n + k ≡ suc (n + k) = omega arith in ap (slice_get (y ∷ xs)) d ∙ drop_get xs n k x e

pub get_drop : {X : Type 0} (xs : List X) (n k : ℕ) (x : X) → slice_get xs (n + k) ≡ Some x → slice_get (drop n xs) k ≡ Some x
get_drop xs zero k x e = let d : k ≡ 0 + k = omega arith in ap (slice_get xs) d ∙ e
get_drop [] (suc n) k x e = cc
get_drop (y ∷ xs) (suc n) k x e = let d : suc n + k ≡ suc (n + k) = omega arith in get_drop xs n k x (ap (slice_get (y ∷ xs)) (sym d) ∙ e)

pub or_shift : (a b c : Bool) → ((a || b) || c) ≡ (a || (b || c))
or_shift true b c = refl
or_shift false b c = refl

pub and_swap : (a b : Bool) → (a && b) ≡ (b && a)
and_swap true true = refl
and_swap true false = refl
and_swap false true = refl
and_swap false false = refl

-- one more element of a list that is gone through
pub any_step : {X : Type 0} (p : X → Bool) (xs : List X) (n : ℕ) (x : X) (a b c : Bool) → n < length xs → x ≡ get_or xs n x → b ≡ (a || list_any p (take n xs)) → c ≡ (b || p x)
    → c ≡ (a || list_any p (take (n + 1) xs))
any_step p xs n x a b c l e h k =
    k ∙ (ap (λ z. z || p x) h ∙ (or_shift a (list_any p (take n xs)) (p x) ∙ ap (λ z. a || z)
    (ap (λ z. list_any p (take n xs) || p z) e ∙ sym (list_any_more p xs n x l))))

pub none_in : {X : Type 0} (p : X → Bool) (xs : List X) (k : ℕ) (x : X) → list_any p xs ≡ false → slice_get xs k ≡ Some x → p x ≡ false
none_in p xs k x h e = elim (decide (p x)) [ inl a ↦ absurd (not_both (list_any p xs) (any_of p xs k x e a) h) | inr b ↦ b ]
