-- Tests of lists, element by element.
use Rattle.std.proofs.Common.{◌≡◌, ℕ, zero, suc, ◌+◌, ◌<◌, Bool, true, false, not, ◌&&◌, ◌||◌, List, [], ◌∷◌, map, length, take, get_or, refl, sym, ◌∙◌, ap, arith}
use Rattle.std.specs.Prelude.{flat_map, filter}
use Rattle.std.specs.List.{list_any, list_all}
use Rattle.lv_source.specs.Places.{Bit, has_bit}
use Rattle.lv_source.proofs.Summaries.{any-join, all-join, some_bit_of, bit_is_some, filter-has, both}
use Rattle.lv_source.proofs.Tests.{and-left, and-both}
use Rattle.lv_extents.proofs.Lists.{taken-more}

pub or-false : (a : Bool) → (a || false) ≡ a
or-false true = refl
or-false false = refl

pub or-shift : (a b c : Bool) → ((a || b) || c) ≡ (a || (b || c))
or-shift true b c = refl
or-shift false b c = refl

pub and-false : (a : Bool) → (a && false) ≡ false
and-false true = refl
and-false false = refl

pub and-true : (a : Bool) → (a && true) ≡ a
and-true true = refl
and-true false = refl

pub no-way : (b : Bool) → b ≡ true → b ≡ false → ⊥
no-way true h k = cc
no-way false h k = cc

module _ {A : Type 0} (p : A → Bool) (xs : List A) (i : ℕ) (x : A) (lt : i < length xs) (e : x ≡ get_or xs i x) where
  pub any-more : list_any p (take (i + 1) xs) ≡ (list_any p (take i xs) || p x)
  any-more = ap (list_any p) (taken-more xs i x lt e) ∙ (any-join p (take i xs) (x ∷ []) ∙ ap (λ u. list_any p (take i xs) || u) (or-false (p x)))

  pub all-more : list_all p (take (i + 1) xs) ≡ (list_all p (take i xs) && p x)
  all-more = ap (list_all p) (taken-more xs i x lt e) ∙ (all-join p (take i xs) (x ∷ []) ∙ ap (λ u. list_all p (take i xs) && u) (and-true (p x)))

  -- one element more, with what was before
  pub any-step : (a b c : Bool) → b ≡ (a || list_any p (take i xs)) → c ≡ (b || p x) → c ≡ (a || list_any p (take (i + 1) xs))
  any-step a b c h k = k ∙ (ap (λ u. u || p x) h ∙ (or-shift a (list_any p (take i xs)) (p x) ∙ ap (λ u. a || u) (sym any-more)))

any-of : {A : Type 0} (p : A → Bool) (xs : List A) (i : ℕ) (d : A) → i < length xs → p (get_or xs i d) ≡ true → list_any p xs ≡ true
any-of p [] i d lt h = absurd (omega arith)
any-of p (x ∷ xs) zero d lt h = left (p x) h
  where
    left : (a : Bool) → a ≡ true → (a || list_any p xs) ≡ true
    left true h = refl
    left false h = cc
any-of p (x ∷ xs) (suc i) d lt h = right (p x) (any-of p xs i d (omega arith) h)
  where
    right : (a : Bool) → list_any p xs ≡ true → (a || list_any p xs) ≡ true
    right true h = refl
    right false h = h

pub any-at : {A : Type 0} (p : A → Bool) (xs : List A) (i : ℕ) (x : A) → i < length xs → x ≡ get_or xs i x → p x ≡ true → list_any p xs ≡ true
any-at p xs i x lt e h = any-of p xs i x lt (ap p (sym e) ∙ h)

pub any-alike : {A : Type 0} (p q : A → Bool) (xs : List A) → ((x : A) → p x ≡ q x) → list_any p xs ≡ list_any q xs
any-alike p q [] h = refl
any-alike p q (x ∷ xs) h = ap (λ u. u || list_any p xs) (h x) ∙ ap (λ u. q x || u) (any-alike p q xs h)

pub any-never : {A : Type 0} (p : A → Bool) (xs : List A) → ((x : A) → p x ≡ false) → list_any p xs ≡ false
any-never p [] h = refl
any-never p (x ∷ xs) h = ap (λ u. u || list_any p xs) (h x) ∙ any-never p xs h

pub any-map : {A B : Type 0} (p : B → Bool) (f : A → B) (xs : List A) → list_any p (map f xs) ≡ list_any (λ x. p (f x)) xs
any-map p f [] = refl
any-map p f (x ∷ xs) = ap (λ u. p (f x) || u) (any-map p f xs)

pub all-map : {A B : Type 0} (p : B → Bool) (f : A → B) (xs : List A) → list_all p (map f xs) ≡ list_all (λ x. p (f x)) xs
all-map p f [] = refl
all-map p f (x ∷ xs) = ap (λ u. p (f x) && u) (all-map p f xs)

pub any-flat : {A B : Type 0} (p : B → Bool) (f : A → List B) (xs : List A) → list_any p (flat_map f xs) ≡ list_any (λ x. list_any p (f x)) xs
any-flat p f [] = refl
any-flat p f (x ∷ xs) = any-join p (f x) (flat_map f xs) ∙ ap (λ u. list_any p (f x) || u) (any-flat p f xs)

-- ---- lists of bits

-- a bit of both
pub any-turn : (xs ys : List Bit) → list_any (has_bit xs) ys ≡ list_any (has_bit ys) xs
any-turn xs ys = both _ _
    (λ h. let r : (b : Bit) × (has_bit ys b ≡ true) × (has_bit xs b ≡ true) = some_bit_of (has_bit xs) ys h in bit_is_some (has_bit ys) xs r.0 r.2 r.1)
    (λ h. let r : (b : Bit) × (has_bit xs b ≡ true) × (has_bit ys b ≡ true) = some_bit_of (has_bit ys) xs h in bit_is_some (has_bit xs) ys r.0 r.2 r.1)

pub filter-all : (xs : List Bit) → filter (λ (b : Bit). not (has_bit [] b)) xs ≡ xs
filter-all [] = refl
filter-all (x ∷ xs) = ap (λ ys. x ∷ ys) (filter-all xs)

-- of the bits of a list those that a test takes
pub any-own : (q : Bit → Bool) (xs : List Bit) → list_any (has_bit xs) (filter q xs) ≡ list_any q xs
any-own q xs = both _ _
    (λ h. let r : (b : Bit) × (has_bit (filter q xs) b ≡ true) × (has_bit xs b ≡ true) = some_bit_of (has_bit xs) (filter q xs) h in
    bit_is_some q xs r.0 r.2 (and-left (q r.0) (has_bit xs r.0) (sym (filter-has q xs r.0) ∙ r.1)))
    (λ h. let r : (b : Bit) × (has_bit xs b ≡ true) × (q b ≡ true) = some_bit_of q xs h in
    bit_is_some (has_bit xs) (filter q xs) r.0 (filter-has q xs r.0 ∙ and-both (q r.0) (has_bit xs r.0) r.2 r.1) r.1)
