-- Lists that a loop goes through.
use Rattle.std.proofs.Common.{◌≡◌, ℕ, zero, suc, ◌+◌, ◌<◌, ◌≤◌, arith, List, [], ◌∷◌, ◌++◌, length, get_or, take, drop, append_assoc, refl, sym, ap, ◌∙◌, subst, flat_map}
use Rattle.std.specs.List.{Contains}
use Rattle.std.proofs.lemmas.Grind.{flat_map-append}
use Rattle.std.proofs.lemmas.List.{take_more, append-nil}
use Rattle.std.proofs.lemmas.List.Elements.{Contains-append_left, Contains-append_right, Contains-append_cases}
use Rattle.std.proofs.Common.{inl, inr}
use Rattle.lv_const.proofs.Told.{none-joined, first-empty, second-empty, both-empty}

rejoin : {A : Type 0} (xs : List A) (i : ℕ) → take i xs ++ drop i xs ≡ xs
rejoin xs zero = refl
rejoin [] (suc i) = refl
rejoin (x ∷ xs) (suc i) = ap (λ zs. x ∷ zs) (rejoin xs i)

module _ {A : Type 0} (xs : List A) (i : ℕ) (x : A) (h : i < length xs) (e : x ≡ get_or xs i x) where
  pub taken : take (i + 1) xs ≡ take i xs ++ x ∷ []
  taken = take_more xs i x h ∙ ap (λ z. take i xs ++ z ∷ []) (sym e)

  pub parted : xs ≡ take i xs ++ x ∷ drop (i + 1) xs
  parted = sym (rejoin xs (i + 1)) ∙ ap (λ zs. zs ++ drop (i + 1) xs) taken ∙ append_assoc (take i xs) (x ∷ []) (drop (i + 1) xs)

-- the rest begins with the element
pub rest-cons : {A : Type 0} (xs : List A) (i : ℕ) (x : A) → i < length xs → x ≡ get_or xs i x → drop i xs ≡ x ∷ drop (i + 1) xs
rest-cons [] i x h e = absurd (omega (arith, h))
rest-cons (y ∷ xs) zero x h e = ap (λ z. z ∷ xs) (sym e)
rest-cons (y ∷ xs) (suc i) x h e =
    rest-cons xs i x (omega (arith, h)) e ∙ ap (λ n. x ∷ drop n (y ∷ xs)) (let k : suc (i + 1) ≡ suc i + 1 = omega arith in k)

pub past : {A : Type 0} (xs : List A) (i : ℕ) → length xs ≤ i → drop i xs ≡ []
past [] zero h = refl
past [] (suc i) h = refl
past (x ∷ xs) zero h = absurd (omega (arith, h))
past (x ∷ xs) (suc i) h = past xs i (omega (arith, h))

module _ {A B : Type 0} (f : A → List B) (xs : List A) (i : ℕ) (x : A) (h : i < length xs) (e : x ≡ get_or xs i x) where
  pub none-more : flat_map f (take i xs) ≡ [] → f x ≡ [] → flat_map f (take (i + 1) xs) ≡ []
  none-more n k = ap (flat_map f) (taken xs i x h e) ∙ none-joined f (take i xs) (x ∷ []) n (both-empty (f x) [] k refl)

  pub found-there : (y : B) → Contains (f x) y → Contains (flat_map f xs) y
  found-there y k = subst (λ zs. Contains (flat_map f zs) y) (sym (parted xs i x h e))
      (subst (λ zs. Contains zs y) (sym (flat_map-append f (take i xs) (x ∷ drop (i + 1) xs)))
      (Contains-append_right (flat_map f (take i xs)) (f x ++ flat_map f (drop (i + 1) xs)) y
      (Contains-append_left (f x) (flat_map f (drop (i + 1) xs)) y k)))

pub none-of : {A B C : Type 0} (f : A → List B) (g : A → List C) → ((x : A) → f x ≡ [] → g x ≡ []) → (xs : List A) → flat_map f xs ≡ [] → flat_map g xs ≡ []
none-of f g h [] k = refl
none-of f g h (x ∷ xs) k =
    both-empty (g x) (flat_map g xs) (h x (first-empty (f x) (flat_map f xs) k)) (none-of f g h xs (second-empty (f x) (flat_map f xs) k))

pub some-of : {A B : Type 0} (f g : A → List B) (y : B) → ((x : A) → Contains (f x) y → Contains (g x) y) → (xs : List A) →
    Contains (flat_map f xs) y → Contains (flat_map g xs) y
some-of f g y h [] k = k
some-of f g y h (x ∷ xs) k = elim (Contains-append_cases (f x) (flat_map f xs) y k) [
  | inl c ↦ Contains-append_left (g x) (flat_map g xs) y (h x c)
  | inr c ↦ Contains-append_right (g x) (flat_map g xs) y (some-of f g y h xs c)
]

pub snoc : {A B : Type 0} (f : A → List B) (xs : List A) (z : A) → flat_map f (xs ++ z ∷ []) ≡ flat_map f xs ++ f z
snoc f xs z = flat_map-append f xs (z ∷ []) ∙ ap (λ ys. flat_map f xs ++ ys) (append-nil (f z))
