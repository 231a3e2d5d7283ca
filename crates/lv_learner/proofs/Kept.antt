-- What a filter keeps, and what it drops.
use Rattle.std.proofs.Common.{◌≡◌, ℕ, ◌<◌, ◌≤◌, cond, Bool, true, false, List, [], ◌∷◌, length, refl, sym, subst, arith, ◌⊎◌, inl, inr}
use Rattle.std.specs.Prelude.{Contains}
use Rattle.std.specs.List.{filter}
use Rattle.std.proofs.lemmas.List.Elements.{All-contains, All-contains_itself, All-filter}
use Rattle.lv_model.specs.Machine.{IsWithin}
use Rattle.lv_model.proofs.Lists.{Contains-here, Contains-later, Contains-cases, Contains-none}

pub filter_within : (p : ℕ → Bool) (xs : List ℕ) → IsWithin (filter p xs) xs
filter_within p xs k inside = All-contains (Contains xs) (filter p xs) k (All-filter p (Contains xs) xs (All-contains_itself xs)) inside

keep_cases : (p : ℕ → Bool) (b : Bool) (x : ℕ) (xs ys : List ℕ) (k : ℕ) → p x ≡ b → (Contains ys k ⊎ (p k ≡ false)) → ((x ≡ k) ⊎ Contains xs k) →
    Contains (cond b (x ∷ ys) ys) k ⊎ (p k ≡ false)
keep_cases p true x xs ys k e later (inl here) = inl (subst (Contains (x ∷ ys)) here (Contains-here x ys))
keep_cases p true x xs ys k e later (inr there) = elim later [ inl h ↦ inl (Contains-later x k ys h) | inr h ↦ inr h ]
keep_cases p false x xs ys k e later (inl here) = inr (subst (λ (j : ℕ). p j ≡ false) here e)
keep_cases p false x xs ys k e later (inr there) = later

head_case : (p : ℕ → Bool) (b : Bool) (x : ℕ) (xs : List ℕ) (k : ℕ) → p x ≡ b → x ≡ k → Contains (cond b (x ∷ filter p xs) (filter p xs)) k ⊎ (p k ≡ false)
head_case p true x xs k e here = inl (subst (Contains (x ∷ filter p xs)) here (Contains-here x (filter p xs)))
head_case p false x xs k e here = inr (subst (λ (j : ℕ). p j ≡ false) here e)

pub filter_keeps : (p : ℕ → Bool) (xs : List ℕ) (k : ℕ) → Contains xs k → Contains (filter p xs) k ⊎ (p k ≡ false)
filter_keeps p [] k inside = absurd (Contains-none k inside)
filter_keeps p (x ∷ xs) k inside =
    elim (Contains-cases x k xs inside) [
      | inl here ↦ head_case p (p x) x xs k refl here
      | inr there ↦ keep_cases p (p x) x xs (filter p xs) k refl (filter_keeps p xs k there) (inr there)
    ]

le_case : (b : Bool) (x : ℕ) (ys xs : List ℕ) → length ys ≤ length xs → length (cond b (x ∷ ys) ys) ≤ length (x ∷ xs)
le_case true x ys xs h = omega arith
le_case false x ys xs h = omega arith

le_length : (p : ℕ → Bool) (xs : List ℕ) → length (filter p xs) ≤ length xs
le_length p [] = omega arith
le_length p (x ∷ xs) = le_case (p x) x (filter p xs) xs (le_length p xs)

fewer_there : (b : Bool) (x : ℕ) (ys xs : List ℕ) → length ys < length xs → length (cond b (x ∷ ys) ys) < length (x ∷ xs)
fewer_there true x ys xs h = omega arith
fewer_there false x ys xs h = omega arith

fewer_here : (p : ℕ → Bool) (b : Bool) (x : ℕ) (xs : List ℕ) (k : ℕ) → p x ≡ b → x ≡ k → p k ≡ false → length (cond b (x ∷ filter p xs) (filter p xs)) < length (x ∷ xs)
fewer_here p true x xs k e here f = let g : p x ≡ false = subst (λ (j : ℕ). p j ≡ false) (sym here) f in cc
fewer_here p false x xs k e here f = omega (arith, le_length p xs)

pub filter_fewer : (p : ℕ → Bool) (xs : List ℕ) (k : ℕ) → Contains xs k → p k ≡ false → length (filter p xs) < length xs
filter_fewer p [] k inside e = absurd (Contains-none k inside)
filter_fewer p (x ∷ xs) k inside e =
    elim (Contains-cases x k xs inside) [
      | inl here ↦ fewer_here p (p x) x xs k refl here e
      | inr there ↦ fewer_there (p x) x (filter p xs) xs (filter_fewer p xs k there e)
    ]
