-- Lists: some element, and each.
use Rattle.std.proofs.Common.{◌≡◌, ℕ, zero, suc, ◌+◌, ◌<◌, Bool, true, false, ◌||◌, List, [], ◌∷◌, ◌++◌, length, map, take, get_or, refl, ap, sym, ◌∙◌, inl, inr, Some}
use Rattle.std.specs.Prelude.{slice_get}
use Rattle.std.specs.List.{list_any}
use Rattle.std.proofs.lemmas.List.Folds.{list_any-append, list_any_more}
use Rattle.lv_source.proofs.Tests.{or-left, or-right, or-split}

pub same_tests : (a b : Bool) → (a ≡ true → b ≡ true) → (b ≡ true → a ≡ true) → a ≡ b
same_tests true b f g = sym (f refl)
same_tests false true f g = g refl
same_tests false false f g = refl

pub not_both : (a : Bool) → a ≡ true → a ≡ false → ⊥
not_both a h k = cc

-- ---- some element

pub record IsSome {X : Type 0} (p : X → Bool) (xs : List X) : Type 0 where
  pub at : ℕ
  pub item : X
  pub there : slice_get xs at ≡ Some item
  pub holds : p item ≡ true

pub some_of : {X : Type 0} (p : X → Bool) (xs : List X) → list_any p xs ≡ true → IsSome p xs
some_of p [] h = cc
some_of p (x ∷ xs) h = elim (or-split (p x) (list_any p xs) h) [
  | inl e ↦ record { at = 0; item = x; there = refl; holds = e }
  | inr e ↦ let r : IsSome p xs = some_of p xs e in record { at = suc r.at; item = r.item; there = r.there; holds = r.holds }
]

pub any_of : {X : Type 0} (p : X → Bool) (xs : List X) (k : ℕ) (x : X) → slice_get xs k ≡ Some x → p x ≡ true → list_any p xs ≡ true
any_of p [] k x e h = cc
any_of p (y ∷ xs) zero x e h = or-left (p y) (list_any p xs) (let q : y ≡ x = cc in ap p q ∙ h)
any_of p (y ∷ xs) (suc k) x e h = or-right (p y) (list_any p xs) (any_of p xs k x e h)

pub any_none : {X : Type 0} (p : X → Bool) (xs : List X) → ((k : ℕ) (x : X) → slice_get xs k ≡ Some x → p x ≡ false) → list_any p xs ≡ false
any_none p [] h = refl
any_none p (x ∷ xs) h = ap (λ b. b || list_any p xs) (h 0 x refl) ∙ any_none p xs (λ k. h (suc k))

pub any_alike : {X : Type 0} (p q : X → Bool) (xs : List X) → ((k : ℕ) (x : X) → slice_get xs k ≡ Some x → p x ≡ q x) → list_any p xs ≡ list_any q xs
any_alike p q [] h = refl
any_alike p q (x ∷ xs) h = ap (λ b. b || list_any p xs) (h 0 x refl) ∙ ap (λ b. q x || b) (any_alike p q xs (λ k. h (suc k)))

pub any_map : {X Y : Type 0} (p : Y → Bool) (f : X → Y) (xs : List X) → list_any p (map f xs) ≡ list_any (λ x. p (f x)) xs
any_map p f [] = refl
any_map p f (x ∷ xs) = ap (λ b. p (f x) || b) (any_map p f xs)

or_shift : (a b c : Bool) → ((a || b) || c) ≡ (a || (b || c))
or_shift true b c = refl
or_shift false b c = refl

-- one more element of a list that is gone through
pub any_step : {X : Type 0} (p : X → Bool) (xs : List X) (n : ℕ) (x : X) (a b c : Bool) → n < length xs → x ≡ get_or xs n x → b ≡ (a || list_any p (take n xs)) → c ≡ (b || p x)
    → c ≡ (a || list_any p (take (n + 1) xs))
any_step p xs n x a b c l e h k =
    k ∙ (ap (λ z. z || p x) h ∙ (or_shift a (list_any p (take n xs)) (p x) ∙ ap (λ z. a || z)
    (ap (λ z. list_any p (take n xs) || p z) e ∙ sym (list_any_more p xs n x l))))

or_none : (a : Bool) → (a || false) ≡ a
or_none true = refl
or_none false = refl

-- with one more at the end
pub any_push : {X : Type 0} (p : X → Bool) (xs : List X) (x : X) → list_any p (xs ++ x ∷ []) ≡ (list_any p xs || p x)
any_push p xs x = list_any-append p xs (x ∷ []) ∙ ap (λ b. list_any p xs || b) (or_none (p x))
