-- Tests on Booleans, names and bits, as facts.
use Rattle.std.proofs.Common.{◌≡◌, ◌⊎◌, inl, inr, ℕ, ◌+◌, ◌<◌, suc, zero, Bool, true, false, ◌&&◌, ◌||◌, ◌==◌, not, List, [], ◌∷◌, ◌++◌, map, refl, sym, ap, ◌∙◌, arith}
use Rattle.std.specs.Prelude.{bytes_eq}
use Rattle.std.specs.List.{list_any, range_with_len}
use Rattle.std.proofs.lemmas.Bool.{eq-eqb, eqb-true}
use Rattle.lv_ast.specs.Names.{Name}
use Rattle.lv_source.specs.Places.{Bit, same_bit, has_bit}

pub and-left : (a b : Bool) → (a && b) ≡ true → a ≡ true
and-left true b h = refl
and-left false b h = h

pub and-right : (a b : Bool) → (a && b) ≡ true → b ≡ true
and-right true b h = h
and-right false b h = cc

pub and-both : (a b : Bool) → a ≡ true → b ≡ true → (a && b) ≡ true
and-both true b h k = k
and-both false b h k = h

pub or-left : (a b : Bool) → a ≡ true → (a || b) ≡ true
or-left true b h = refl
or-left false b h = cc

pub or-right : (a b : Bool) → b ≡ true → (a || b) ≡ true
or-right true b h = refl
or-right false b h = h

pub or-split : (a b : Bool) → (a || b) ≡ true → (a ≡ true) ⊎ (b ≡ true)
or-split true b h = inl refl
or-split false b h = inr h

pub or-none_left : (a b : Bool) → (a || b) ≡ false → a ≡ false
or-none_left true b h = h
or-none_left false b h = refl

pub or-none_right : (a b : Bool) → (a || b) ≡ false → b ≡ false
or-none_right true b h = cc
or-none_right false b h = h

pub decide : (b : Bool) → (b ≡ true) ⊎ (b ≡ false)
decide true = inl refl
decide false = inr refl

pub not-true : (b : Bool) → not b ≡ true → b ≡ false
not-true true h = cc
not-true false h = refl

pub not-false : (b : Bool) → not b ≡ false → b ≡ true
not-false true h = refl
not-false false h = cc

-- ---- lists

pub any-left : {A : Type 0} (p : A → Bool) (xs ys : List A) → list_any p xs ≡ true → list_any p (xs ++ ys) ≡ true
any-left p [] ys h = cc
any-left p (x ∷ xs) ys h = elim (p x) as (λ c. (c || list_any p xs) ≡ true → (c || list_any p (xs ++ ys)) ≡ true) [ true ↦ λ k. refl | false ↦ any-left p xs ys ] h

pub any-right : {A : Type 0} (p : A → Bool) (xs ys : List A) → list_any p ys ≡ true → list_any p (xs ++ ys) ≡ true
any-right p [] ys h = h
any-right p (x ∷ xs) ys h = or-right (p x) (list_any p (xs ++ ys)) (any-right p xs ys h)

pub any-split : {A : Type 0} (p : A → Bool) (xs ys : List A) → list_any p (xs ++ ys) ≡ true → (list_any p xs ≡ true) ⊎ (list_any p ys ≡ true)
any-split p [] ys h = inr h
any-split p (x ∷ xs) ys h = elim (or-split (p x) (list_any p (xs ++ ys)) h) [
  | inl k ↦ inl (or-left (p x) (list_any p xs) k)
  | inr k ↦ elim (any-split p xs ys k) [ inl j ↦ inl (or-right (p x) (list_any p xs) j) | inr j ↦ inr j ]
]

pub any-map : {A B : Type 0} (p : B → Bool) (f : A → B) (xs : List A) → list_any (λ x. p (f x)) xs ≡ list_any p (map f xs)
any-map p f [] = refl
any-map p f (x ∷ xs) = ap (λ b. p (f x) || b) (any-map p f xs)

pub any-range : (p : ℕ → Bool) (a n k : ℕ) → k < n → p (a + k) ≡ true → list_any p (range_with_len a n) ≡ true
any-range p a zero k h j = absurd (omega arith)
any-range p a (suc n) zero h j = or-left (p a) _ (let e : a + 0 ≡ a = omega arith in ap p (sym e) ∙ j)
any-range p a (suc n) (suc k) h j =
    or-right (p a) _ (any-range p (a + 1) n k (omega arith) (let e : a + 1 + k ≡ a + suc k = omega arith in ap p e ∙ j))

-- ---- names and bits

pub same_name : (m n : Name) → bytes_eq m n ≡ true → m ≡ n
same_name [] [] h = refl
same_name [] (y ∷ ys) h = cc
same_name (x ∷ xs) [] h = cc
same_name (x ∷ xs) (y ∷ ys) h =
    let head : x ≡ y = eqb-true x y (and-left (x == y) (bytes_eq xs ys) h) in
    let tail : xs ≡ ys = same_name xs ys (and-right (x == y) (bytes_eq xs ys) h) in
    cc

pub name-itself : (n : Name) → bytes_eq n n ≡ true
name-itself [] = refl
name-itself (x ∷ xs) = and-both (x == x) (bytes_eq xs xs) (eq-eqb x x refl) (name-itself xs)

pub bit-itself : (b : Bit) → same_bit b b ≡ true
bit-itself b = and-both (b.place == b.place) (bytes_eq b.name b.name) (eq-eqb b.place b.place refl) (name-itself b.name)

bit_of : Name → ℕ → Bit
bit_of name place = record { name = name; place = place }

pub same_bits : (a b : Bit) → same_bit a b ≡ true → a ≡ b
unfolding bit_of
same_bits a b h =
    let place : a.place ≡ b.place = eqb-true a.place b.place (and-left (a.place == b.place) (bytes_eq a.name b.name) h) in
    let name : a.name ≡ b.name = same_name a.name b.name (and-right (a.place == b.place) (bytes_eq a.name b.name) h) in
    ap (λ n. bit_of n a.place) name ∙ ap (λ p. bit_of b.name p) place

pub has-head : (b : Bit) (bs : List Bit) → has_bit (b ∷ bs) b ≡ true
has-head b bs = or-left (same_bit b b) (has_bit bs b) (bit-itself b)
