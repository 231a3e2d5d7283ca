-- Where parts feed on each other without a circle, a walk from part to part comes to an end.
use Rattle.std.proofs.Common.{◌≡◌, inl, inr, ℕ, ◌<◌, ◌≤◌, true, false, ◌||◌, ◌==◌, not, List, [], ◌∷◌, ◌++◌, length, refl, sym, ap, ◌∙◌, arith}
use Rattle.std.specs.List.{list_any, IsDistinct, AllByRecursion}
use Rattle.std.proofs.lemmas.Bool.{eqb-true, eq-eqb}
use Rattle.std.proofs.lemmas.Map.Steps.{length-le_from_distinct_below}
use Rattle.lv_source.specs.Parts.{Part}
use Rattle.lv_source.specs.PartRules.{feeds, is_chain, are_distinct, is_cycle}
use Rattle.lv_source.proofs.Each.{Each}
use Rattle.lv_source.proofs.Tests.{and-left, and-right, and-both, or-split, or-none_left, or-none_right, not-true, decide}

-- ---- distinct numbers

eqb_sym : (a b : ℕ) → (a == b) ≡ (b == a)
eqb_sym a b = elim (decide (a == b)) [
  | inl h ↦ h ∙ sym (eq-eqb b a (sym (eqb-true a b h)))
  | inr h ↦ elim (decide (b == a)) [ inl k ↦ absurd (let e : (a == b) ≡ true = eq-eqb a b (sym (eqb-true b a k)) in cc) | inr k ↦ h ∙ sym k ]
]

unlike : (k : ℕ) (xs : List ℕ) → list_any (λ j. j == k) xs ≡ false → AllByRecursion (λ y. (k == y) ≡ false) xs
unlike k [] h = tt
unlike k (x ∷ xs) h = (eqb_sym k x ∙ or-none_left (x == k) (list_any (λ j. j == k) xs) h, unlike k xs (or-none_right (x == k) (list_any (λ j. j == k) xs) h))

distinct_of : (xs : List ℕ) → are_distinct xs ≡ true → IsDistinct (λ a b. a == b) xs
unfolding IsDistinct
distinct_of [] h = tt
distinct_of (x ∷ xs) h = (
  unlike x xs (not-true (list_any (λ j. j == x) xs) (and-left (not (list_any (λ j. j == x) xs)) (are_distinct xs) h)),
  distinct_of xs (and-right (not (list_any (λ j. j == x) xs)) (are_distinct xs) h),
)

each_below : (n : ℕ) (xs : List ℕ) → Each (λ i. i < n) xs → (q : ℕ) → list_any (λ i. q == i) xs ≡ true → q < n
each_below n [] h q k = cc
each_below n (x ∷ xs) h q k = elim (or-split (q == x) (list_any (λ i. q == i) xs) k) [
  | inl e ↦ (let same : q ≡ x = eqb-true q x e in let below : x < n = h.0 in omega arith)
  | inr e ↦ each_below n xs h.1 q e
]

pub few : (n : ℕ) (xs : List ℕ) → are_distinct xs ≡ true → Each (λ i. i < n) xs → length xs ≤ n
few n xs h k = length-le_from_distinct_below xs n (distinct_of xs h) (each_below n xs k)

unseen-more : (k j : ℕ) (xs : List ℕ) → list_any (λ i. i == k) xs ≡ false → (k == j) ≡ false → list_any (λ i. i == k) (xs ++ j ∷ []) ≡ false
unseen-more k j [] h e = ap (λ b. b || false) (eqb_sym j k ∙ e)
unseen-more k j (x ∷ xs) h e =
    ap (λ b. b || list_any (λ i. i == k) (xs ++ j ∷ [])) (or-none_left (x == k) (list_any (λ i. i == k) xs) h) ∙
    unseen-more k j xs (or-none_right (x == k) (list_any (λ i. i == k) xs) h) e

pub distinct-more : (xs : List ℕ) (j : ℕ) → are_distinct xs ≡ true → list_any (λ i. i == j) xs ≡ false → are_distinct (xs ++ j ∷ []) ≡ true
distinct-more [] j h k = refl
distinct-more (x ∷ xs) j h k =
    let apart : list_any (λ i. i == x) xs ≡ false = not-true (list_any (λ i. i == x) xs) (and-left (not (list_any (λ i. i == x) xs)) (are_distinct xs) h) in
    let other : (x == j) ≡ false = or-none_left (x == j) (list_any (λ i. i == j) xs) k in
    and-both (not (list_any (λ i. i == x) (xs ++ j ∷ []))) (are_distinct (xs ++ j ∷ [])) (ap not (unseen-more x j xs apart other))
    (distinct-more xs j (and-right (not (list_any (λ i. i == x) xs)) (are_distinct xs) h) (or-none_right (x == j) (list_any (λ i. i == j) xs) k))

-- ---- ways

module _ (ps : List Part) where
  -- each reads a bit that the next drives, up to the last one
  abbrev pub Way : List ℕ → ℕ → Type 0
  Way [] b = ⊥
  Way (a ∷ []) b = a ≡ b
  Way (a ∷ c ∷ xs) b = (feeds ps a c ≡ true) × Way (c ∷ xs) b

  pub way-more : (xs : List ℕ) (b j : ℕ) → Way xs b → feeds ps b j ≡ true → Way (xs ++ j ∷ []) j
  way-more [] b j h f = absurd h
  way-more (a ∷ []) b j h f = (ap (λ i. feeds ps i j) h ∙ f, refl)
  way-more (a ∷ c ∷ xs) b j h f = (h.0, way-more (c ∷ xs) b j h.1 f)

  chain_of : (first : ℕ) (xs : List ℕ) (b : ℕ) → Way xs b → feeds ps b first ≡ true → is_chain ps first xs ≡ true
  chain_of first [] b h f = absurd h
  chain_of first (a ∷ []) b h f = ap (λ i. feeds ps i first) h ∙ f
  chain_of first (a ∷ c ∷ xs) b h f = and-both (feeds ps a c) (is_chain ps first (c ∷ xs)) h.0 (chain_of first (c ∷ xs) b h.1 f)

  -- from a part of the way on, back to it
  pub circle : (xs : List ℕ) (b j : ℕ) → Way xs b → are_distinct xs ≡ true → feeds ps b j ≡ true → list_any (λ i. i == j) xs ≡ true → (ks : List ℕ) × (is_cycle ps ks ≡ true)
  circle [] b j h d f k = absurd h
  circle (a ∷ []) b j h d f k =
      let e : a ≡ j = elim (or-split (a == j) false k) [ inl x ↦ eqb-true a j x | inr x ↦ cc ] in
      let g : feeds ps b a ≡ true = ap (feeds ps b) e ∙ f in
      (a ∷ [], chain_of a (a ∷ []) b h g)
  circle (a ∷ c ∷ xs) b j h d f k = elim (or-split (a == j) (list_any (λ i. i == j) (c ∷ xs)) k) [
    | inl x ↦ (let e : a ≡ j = eqb-true a j x in let g : feeds ps b a ≡ true = ap (feeds ps b) e ∙ f in
        (a ∷ c ∷ xs, and-both (are_distinct (a ∷ c ∷ xs)) (is_chain ps a (a ∷ c ∷ xs)) d (chain_of a (a ∷ c ∷ xs) b h g)))
    | inr x ↦ circle (c ∷ xs) b j h.1 (and-right (not (list_any (λ i. i == a) (c ∷ xs))) (are_distinct (c ∷ xs)) d) f x
  ]
