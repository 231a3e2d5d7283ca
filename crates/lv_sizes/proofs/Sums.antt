-- Sums of lists, from their first element on.
use Rattle.std.proofs.Common.{◌≡◌, ℕ, suc, ◌+◌, ◌-◌, ◌<◌, List, [], ◌∷◌, ◌++◌, map, sum, length, get_or, drop, ap, ◌∙◌, sym, subst, refl, arith, add-one, drop-cons, Option, Some, None}
use Rattle.std.proofs.lemmas.List.Sums.{sum_by-cons}
use Rattle.lv_sizes.specs.Counts.{Spends, added}

pub sum-added : {A : Type 0} (f : A → ℕ) (xs : List A) → sum (map f xs) ≡ added f xs
sum-added f [] = refl
sum-added f (x ∷ xs) = sum_by-cons (λ (n : ℕ). n) (f x) (map f xs) ∙ ap (λ n. f x + n) (sum-added f xs)

pub added-map : {A B : Type 0} (f : B → ℕ) (g : A → B) (xs : List A) → added f (map g xs) ≡ added (λ x. f (g x)) xs
added-map f g [] = refl
added-map f g (x ∷ xs) = ap (λ n. f (g x) + n) (added-map f g xs)

-- the list from a place on
pub added-here : {A : Type 0} (f : A → ℕ) (xs : List A) (i : ℕ) (x : A) → i < length xs → get_or xs i x ≡ x →
    added f (drop i xs) ≡ f x + added f (drop (i + 1) xs)
added-here f xs i x h e =
    let d : drop i xs ≡ get_or xs i x ∷ drop (i + 1) xs = rw add-one (drop-cons xs i x h) in
    ap (added f) (d ∙ ap (λ y. y ∷ drop (i + 1) xs) e)

-- ---- spending

pub spends-same : (left m n : ℕ) (r : Option ℕ) → m ≡ n → Spends left m r → Spends left n r
spends-same left m n r e h = subst (λ k. Spends left k r) e h

pub spends-then : (left rest m n : ℕ) (r : Option ℕ) → rest + m ≡ left → Spends rest n r → Spends left (m + n) r
spends-then left rest m n None e h = omega arith
spends-then left rest m n (Some k) e h = omega arith

module _ {A : Type 0} (f : A → ℕ) (xs : List A) (i left now : ℕ) (x : A) (h : i < length xs) (e : get_or xs i x ≡ x)
    (k : now + added f xs ≡ left + added f (drop i xs)) where
  pub spends-over : now < f x → left < added f xs
  spends-over g = let d : added f (drop i xs) ≡ f x + added f (drop (i + 1) xs) = added-here f xs i x h e in omega arith

  pub spends-more : (rest : ℕ) → rest + f x ≡ now → rest + added f xs ≡ left + added f (drop (i + 1) xs)
  spends-more rest g = let d : added f (drop i xs) ≡ f x + added f (drop (i + 1) xs) = added-here f xs i x h e in omega arith

-- a node, and what is below it
pub spends-node : (left m n : ℕ) (r : Option ℕ) → 0 < left → m ≡ suc n → Spends (left - 1) n r → Spends left m r
spends-node left m n None g e h = omega arith
spends-node left m n (Some k) g e h = omega arith
