-- Lists that a loop goes through.
use Rattle.std.proofs.Common.{◌≡◌, ◌⊎◌, inl, inr, ℕ, zero, suc, ◌+◌, ◌<◌, arith, List, [], ◌∷◌, ◌++◌, map, length, get_or, take, drop, append_assoc, refl, sym, ap, ◌∙◌, subst, flat_map, Some}
use Rattle.std.specs.Prelude.{slice_get}
use Rattle.std.specs.Option.{option_map}
use Rattle.std.specs.List.{Contains}
use Rattle.std.proofs.lemmas.Grind.{flat_map-append}
use Rattle.std.proofs.lemmas.List.{take_more}
use Rattle.std.proofs.lemmas.List.Elements.{Contains-append_left, Contains-append_right}
use Rattle.std.proofs.lemmas.Option.{slice_get-map, slice_get-get_or}
use Rattle.lv_const.proofs.Told.{none-joined, both-empty}
use Rattle.lv_source.proofs.Bridges.{map-join}

rejoin : {A : Type 0} (xs : List A) (i : ℕ) → take i xs ++ drop i xs ≡ xs
rejoin xs zero = refl
rejoin [] (suc i) = refl
rejoin (x ∷ xs) (suc i) = ap (λ zs. x ∷ zs) (rejoin xs i)

module _ {A : Type 0} (xs : List A) (i : ℕ) (x : A) (h : i < length xs) (e : x ≡ get_or xs i x) where
  pub taken : take (i + 1) xs ≡ take i xs ++ x ∷ []
  taken = take_more xs i x h ∙ ap (λ z. take i xs ++ z ∷ []) (sym e)

  parted : xs ≡ take i xs ++ x ∷ drop (i + 1) xs
  parted = sym (rejoin xs (i + 1)) ∙ ap (λ zs. zs ++ drop (i + 1) xs) taken ∙ append_assoc (take i xs) (x ∷ []) (drop (i + 1) xs)

  pub read : slice_get xs i ≡ Some x
  read = slice_get-get_or xs i x h ∙ ap (λ z. Some z) (sym e)

module _ {A B : Type 0} (g : A → B) (xs : List A) (i : ℕ) (x : A) (h : i < length xs) (e : x ≡ get_or xs i x) where
  taken_over : map g (take (i + 1) xs) ≡ map g (take i xs) ++ g x ∷ []
  taken_over = ap (map g) (taken xs i x h e) ∙ map-join g (take i xs) (x ∷ [])

  pub read_over : slice_get (map g xs) i ≡ Some (g x)
  read_over = slice_get-map g xs i ∙ ap (option_map g) (read xs i x h e)

module _ {A B C : Type 0} (g : A → B) (f : B → List C) (xs : List A) (i : ℕ) (x : A) (h : i < length xs) (e : x ≡ get_or xs i x) where
  pub none_more : flat_map f (map g (take i xs)) ≡ [] → f (g x) ≡ [] → flat_map f (map g (take (i + 1) xs)) ≡ []
  none_more n k = ap (flat_map f) (taken_over g xs i x h e) ∙ none-joined f (map g (take i xs)) (g x ∷ []) n (both-empty (f (g x)) [] k refl)

  pub found_there : (y : C) → Contains (f (g x)) y → Contains (flat_map f (map g xs)) y
  found_there y k = subst (λ zs. Contains (flat_map f (map g zs)) y) (sym (parted xs i x h e))
      (subst (λ zs. Contains (flat_map f zs) y) (sym (map-join g (take i xs) (x ∷ drop (i + 1) xs)))
      (subst (λ zs. Contains zs y) (sym (flat_map-append f (map g (take i xs)) (g x ∷ map g (drop (i + 1) xs))))
      (Contains-append_right (flat_map f (map g (take i xs))) (f (g x) ++ flat_map f (map g (drop (i + 1) xs))) y
      (Contains-append_left (f (g x)) (flat_map f (map g (drop (i + 1) xs))) y k))))

pub map_id : {A : Type 0} (xs : List A) → map (λ x. x) xs ≡ xs
map_id [] = refl
map_id (x ∷ xs) = ap (λ zs. x ∷ zs) (map_id xs)

pub found_in : {A C : Type 0} (f : A → List C) (xs : List A) (i : ℕ) (x : A) → i < length xs → x ≡ get_or xs i x → (y : C) → Contains (f x) y →
    Contains (flat_map f xs) y
found_in f xs i x h e y k = subst (λ zs. Contains (flat_map f zs) y) (map_id xs) (found_there (λ z. z) f xs i x h e y k)

three_ways : (i k : ℕ) → (i ≡ k) ⊎ ((i < k) ⊎ (k < i))
three_ways zero zero = inl refl
three_ways zero (suc k) = inr (inl (omega arith))
three_ways (suc i) zero = inr (inr (omega arith))
three_ways (suc i) (suc k) = elim (three_ways i k) [
  | inl e ↦ inl (ap suc e)
  | inr (inl l) ↦ inr (inl (let m : i < k = l in omega arith))
  | inr (inr l) ↦ inr (inr (let m : k < i = l in omega arith))
]

pub below_next : (j k : ℕ) → j < k + 1 → (j < k) ⊎ (j ≡ k)
below_next j k h = elim (three_ways j k) [ inl e ↦ inr e | inr (inl l) ↦ inl l | inr (inr l) ↦ absurd (omega arith) ]
