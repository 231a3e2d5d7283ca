-- The bits that a select names, by numbers without signs.
use Rattle.std.proofs.Common.{◌≡◌, ℕ, zero, suc, ◌+◌, ◌-◌, ◌*◌, ◌^◌, ◌≤◌, ◌<◌, min, Bool, true, false, ◌&&◌, List, [], ◌∷◌, ◌++◌, ap, ◌∙◌, sym, subst, refl, map, arith, Option, Some, None, not, inl, inr, ℤ, pos, negsuc, ◌+ℤ◌, add-one}
use Rattle.std.specs.Prelude.{reverse, nat_lt, if◌then◌else◌, ◌-ℤ◌}
use Rattle.std.specs.List.{range_with_len}
use Rattle.std.proofs.lemmas.List.{reverse-append, map-append}
use Rattle.std.proofs.lemmas.List.FromFn.{map-range_with_len_more}
use Rattle.std.proofs.lemmas.Bool.Decides.{nat_tests}
use Rattle.std.proofs.lemmas.Int.{ints}
use Rattle.std.proofs.Math.Nat.{pow-suc}
use Rattle.lv_bits.proofs.Shifts.{pow_le}
use Rattle.lv_bits.specs.Values.{signed_of}
use Rattle.lv_source.specs.Names.{Bounds, low, high}
use Rattle.lv_source.specs.Places.{falls, rising, bit_place, read_bits}
use Rattle.lv_const.specs.declared.constant.Const.{Const}
use Rattle.lv_const.specs.Constants.{bounds_of}
use Rattle.lv_const.specs.Signs.{is_negative, magnitude}
use Rattle.lv_const.specs.Picks.{nearby, near_place, place_bit, near_run, bits_at}
use Rattle.lv_const.proofs.Numbers.{split}

-- ---- one bit more

read-more : (a : ℕ) (k : Option ℕ) (ks : List (Option ℕ)) → 2 * read_bits a ks + place_bit a k ≡ read_bits a (k ∷ ks)
read-more a None ks = omega arith
read-more a (Some k) ks = omega arith

pub grows : (old bit j : ℕ) → old < 2 ^ j → bit ≤ 1 → 2 * old + bit < 2 ^ (j + 1)
grows old bit j h k = rw (add-one, pow-suc) (omega (arith, h, k))

pub stays : (old bit j : ℕ) → old < 2 ^ j → bit ≤ 1 → j < 128 → 2 * old + bit < 2 ^ 128
stays old bit j h k m = omega (arith, grows old bit j h k, pow_le (j + 1) 128 (omega (arith, m)))

pub falling_more : (x lowest count j old : ℕ) (b : Bounds) → j < count → old ≡ read_bits x (map (near_place b) (range_with_len (lowest + (count - j)) j)) →
    2 * old + place_bit x (near_place b (lowest + (count - 1 - j))) ≡ read_bits x (map (near_place b) (range_with_len (lowest + (count - (j + 1))) (j + 1)))
falling_more x lowest count j old b h e =
    let m : lowest + (count - 1 - j) ≡ lowest + (count - (j + 1)) = omega arith in
    let n : lowest + (count - j) ≡ lowest + (count - (j + 1)) + 1 = omega (arith, h) in
    ap (λ k. 2 * k + place_bit x (near_place b (lowest + (count - 1 - j)))) (e ∙ ap (λ k. read_bits x (map (near_place b) (range_with_len k j))) n) ∙
    (ap (λ k. 2 * read_bits x (map (near_place b) (range_with_len (lowest + (count - (j + 1)) + 1) j)) + place_bit x (near_place b k)) m ∙
    (read-more x (near_place b (lowest + (count - (j + 1)))) (map (near_place b) (range_with_len (lowest + (count - (j + 1)) + 1) j)) ∙
    ap (λ k. read_bits x (map (near_place b) (range_with_len (lowest + (count - (j + 1))) k))) (sym (add-one j))))

pub falling_all : (x lowest count n old : ℕ) (b : Bounds) → n ≡ count → old ≡ read_bits x (map (near_place b) (range_with_len (lowest + (count - n)) n)) →
    old ≡ read_bits x (map (near_place b) (range_with_len lowest count))
falling_all x lowest count n old b h e =
    let m : lowest + (count - n) ≡ lowest = omega (arith, h) in e ∙
    (ap (λ k. read_bits x (map (near_place b) (range_with_len k n))) m ∙ ap (λ k. read_bits x (map (near_place b) (range_with_len lowest k))) h)

pub rising_more : (x lowest j old : ℕ) (b : Bounds) → old ≡ read_bits x (reverse (map (near_place b) (range_with_len lowest j))) →
    2 * old + place_bit x (near_place b (lowest + j)) ≡ read_bits x (reverse (map (near_place b) (range_with_len lowest (j + 1))))
rising_more x lowest j old b e =
    ap (λ k. 2 * k + place_bit x (near_place b (lowest + j))) e ∙
    (read-more x (near_place b (lowest + j)) (reverse (map (near_place b) (range_with_len lowest j))) ∙
    sym (ap (λ ks. read_bits x (reverse ks)) (map-range_with_len_more (near_place b) lowest j (lowest + j) refl) ∙
    ap (read_bits x) (reverse-append (map (near_place b) (range_with_len lowest j)) (near_place b (lowest + j) ∷ []))))

-- ---- numbers that are near

data IsNear : ℤ → ℕ → ℕ → Type 0 where
  nothing : (z : ℤ) (m : ℕ) → IsNear z m zero
  at : (k n : ℕ) → IsNear (pos k) (k + 2048) n
  under : (k m n : ℕ) → m + suc k ≡ 2048 → IsNear (negsuc k) m n
  far : (k m n : ℕ) → 65536 ≤ k → 67584 ≤ m → IsNear (pos k) m n
  deep : (k m n : ℕ) → n ≤ suc k → m + n ≤ 2048 → IsNear (negsuc k) m n

moved : (z y : ℤ) (m l n : ℕ) → z ≡ y → m ≡ l → IsNear y l n → IsNear z m n
moved z y m l n e f h = subst (λ u. IsNear u m n) (sym e) (subst (λ u. IsNear y u n) (sym f) h)

next : (z : ℤ) (m n : ℕ) → IsNear z m (suc n) → IsNear (z +ℤ pos 1) (m + 1) n
next z m zero h = nothing (z +ℤ pos 1) (m + 1)
next z m (suc n) (at k _) = moved (pos k +ℤ pos 1) (pos (k + 1)) (k + 2048 + 1) (k + 1 + 2048) (suc n) (omega (arith, ints)) (omega arith) (at (k + 1) (suc n))
next z m (suc n) (under zero _ _ e) = moved (negsuc zero +ℤ pos 1) (pos 0) (m + 1) (0 + 2048) (suc n) (omega (arith, ints)) (omega (arith, e)) (at 0 (suc n))
next z m (suc n) (under (suc k) _ _ e) = moved (negsuc (suc k) +ℤ pos 1) (negsuc k) (m + 1) (m + 1) (suc n) (omega (arith, ints)) refl
    (under k (m + 1) (suc n) (omega (arith, e)))
next z m (suc n) (far k _ _ e f) = moved (pos k +ℤ pos 1) (pos (k + 1)) (m + 1) (m + 1) (suc n) (omega (arith, ints)) refl
    (far (k + 1) (m + 1) (suc n) (omega (arith, e)) (omega (arith, f)))
next z m (suc n) (deep zero _ _ e f) = absurd (omega (arith, e))
next z m (suc n) (deep (suc k) _ _ e f) = moved (negsuc (suc k) +ℤ pos 1) (negsuc k) (m + 1) (m + 1) (suc n) (omega (arith, ints)) refl
    (deep k (m + 1) (suc n) (omega (arith, e)) (omega (arith, f)))

pick : {A : Type 0} (p q : Bool) (x : A) → (if not p && not q then Some x else None) ≡ (if p then None else (if q then None else Some x))
pick true q x = refl
pick false true x = refl
pick false false x = refl

pick-none : {A : Type 0} (p : Bool) (x : Option A) → (if p then None else (if true then None else x)) ≡ None
pick-none true x = refl
pick-none false x = refl

shift-lt : (a b : ℕ) → nat_lt (a + 2048) (b + 2048) ≡ nat_lt a b
shift-lt a b = elim (split (nat_lt a b)) [ inl h ↦ grind (arith, nat_tests) | inr h ↦ grind (arith, nat_tests) ]

shift-place : (b : Bounds) (k : ℕ) → (if falls b then k - b.right else b.right - k) ≡
    (if falls b then k + 2048 - 2048 - b.right else b.right - (k + 2048 - 2048))
shift-place b k = let e : k + 2048 - 2048 ≡ k = omega arith in ap (λ n. if falls b then n - b.right else b.right - n) (sym e)

from-lt : (a b : ℕ) → nat_lt a b ≡ true → a < b
from-lt a b h = grind (arith, nat_tests)

from-not : (a b : ℕ) → nat_lt a b ≡ false → b ≤ a
from-not a b h = grind (arith, nat_tests)

false-true : false ≡ true → ⊥
false-true h = cc

true-false : true ≡ false → ⊥
true-false h = cc

lt-true : (a b : ℕ) → a < b → nat_lt a b ≡ true
lt-true a b h = grind (arith, nat_tests)

head : (b : Bounds) → high b ≤ 65535 → (z : ℤ) (m n : ℕ) → IsNear z m (suc n) → bit_place b z ≡ near_place b m
head b h z m n (at k _) = pick (nat_lt k (low b)) (nat_lt (high b) k) (if falls b then k - b.right else b.right - k) ∙
    (ap (λ p. if p then None else (if nat_lt (high b) k then None else Some (if falls b then k - b.right else b.right - k))) (sym (shift-lt k (low b))) ∙
    (ap (λ p. if nat_lt (k + 2048) (low b + 2048) then None else (if p then None else Some (if falls b then k - b.right else b.right - k)))
    (sym (shift-lt (high b) k)) ∙
    ap (λ p. if nat_lt (k + 2048) (low b + 2048) then None else (if nat_lt (high b + 2048) (k + 2048) then None else Some p)) (shift-place b k)))
head b h z m n (under k _ _ e) = sym (ap (λ p. if p then None else (if nat_lt (high b + 2048) m then None else Some
    (if falls b then m - 2048 - b.right else b.right - (m - 2048))))
    (lt-true m (low b + 2048) (omega (arith, e))))
head b h z m n (far k _ _ e f) =
    pick (nat_lt k (low b)) (nat_lt (high b) k) (if falls b then k - b.right else b.right - k) ∙
    (ap (λ p. if nat_lt k (low b) then None else (if p then None else Some (if falls b then k - b.right else b.right - k)))
    (lt-true (high b) k (omega (arith, e, h))) ∙
    (pick-none (nat_lt k (low b)) (Some (if falls b then k - b.right else b.right - k)) ∙ sym
    (ap (λ p. if nat_lt m (low b + 2048) then None else (if p then None else Some (if falls b then m - 2048 - b.right else b.right - (m - 2048))))
    (lt-true (high b + 2048) m (omega (arith, f, h))) ∙
    pick-none (nat_lt m (low b + 2048)) (Some (if falls b then m - 2048 - b.right else b.right - (m - 2048))))))
head b h z m n (deep k _ _ e f) = sym (ap (λ p. if p then None else (if nat_lt (high b + 2048) m then None else Some
    (if falls b then m - 2048 - b.right else b.right - (m - 2048))))
    (lt-true m (low b + 2048) (omega (arith, f))))

two : {A : Type 0} (a b : A) (xs ys : List A) → a ≡ b → xs ≡ ys → a ∷ xs ≡ b ∷ ys
two a b xs ys h k = ap (λ x. x ∷ xs) h ∙ ap (λ zs. b ∷ zs) k

agree : (b : Bounds) → high b ≤ 65535 → (z : ℤ) (m n : ℕ) → IsNear z m n → map (near_place b) (range_with_len m n) ≡ map (bit_place b) (rising z n)
agree b h z m zero i = refl
agree b h z m (suc n) i = two (near_place b m) (bit_place b z) _ _ (sym (head b h z m n i)) (agree b h (z +ℤ pos 1) (m + 1) n (next z m n i))

pub map-reverse : {A B : Type 0} (f : A → B) (xs : List A) → map f (reverse xs) ≡ reverse (map f xs)
map-reverse f [] = refl
map-reverse f (x ∷ xs) = ap (map f) (reverse-append (x ∷ []) xs) ∙
    (map-append f (reverse xs) (x ∷ []) ∙ (ap (λ ys. ys ++ f x ∷ []) (map-reverse f xs) ∙ sym (reverse-append (f x ∷ []) (map f xs))))

run-near : (c : Const) (z : ℤ) (m n : ℕ) → high (bounds_of c) ≤ 65535 → IsNear z m n → near_run c m n ≡ bits_at c z n
run-near c z m n h i =
    let e : map (near_place (bounds_of c)) (range_with_len m n) ≡ map (bit_place (bounds_of c)) (rising z n) = agree (bounds_of c) h z m n i in
    ap (λ v. record { word = record { width = n; value = v }; signed = false }) (elim (split (falls (bounds_of c))) [
      | inl k ↦ rw k (ap (read_bits c.word.value) e)
      | inr k ↦ rw k (ap (λ ks. read_bits c.word.value (reverse ks)) e ∙ ap (read_bits c.word.value) (sym (map-reverse (bit_place (bounds_of c)) (rising z n))))
    ])

is-nearby : (z : ℤ) (n : ℕ) → n ≤ 128 → IsNear z (nearby z) n
is-nearby (pos k) n h = elim (split (nat_lt 70000 k)) [
  | inl t ↦ let l : 70000 < k = from-lt 70000 k t in far k (min k 70000 + 2048) n (omega (arith, l)) (omega (arith, l))
  | inr t ↦ let l : k ≤ 70000 = from-not 70000 k t in moved (pos k) (pos k) (min k 70000 + 2048) (k + 2048) n refl (omega (arith, l)) (at k n)
]
is-nearby (negsuc k) n h = elim (split (nat_lt 999 k)) [
  | inl t ↦ let l : 999 < k = from-lt 999 k t in deep k (2047 - min k 999) n (omega (arith, l, h)) (omega (arith, l, h))
  | inr t ↦ let l : k ≤ 999 = from-not 999 k t in under k (2047 - min k 999) n (omega (arith, l))
]

is-lower : (z : ℤ) (n : ℕ) → n ≤ 128 → IsNear (z -ℤ pos (n - 1)) (nearby z - (n - 1)) n
is-lower (pos k) n h = elim (split (nat_lt 70000 k)) [
  | inl t ↦ let l : 70000 < k = from-lt 70000 k t in
      moved (pos k -ℤ pos (n - 1)) (pos (k - (n - 1))) (min k 70000 + 2048 - (n - 1)) (min k 70000 + 2048 - (n - 1)) n (omega (arith, ints, l, h)) refl
      (far (k - (n - 1)) (min k 70000 + 2048 - (n - 1)) n (omega (arith, l, h)) (omega (arith, l, h)))
  | inr t ↦ let l : k ≤ 70000 = from-not 70000 k t in elim (split (nat_lt k (n - 1))) [
    | inl u ↦ let g : k < n - 1 = from-lt k (n - 1) u in
        moved (pos k -ℤ pos (n - 1)) (negsuc (n - 1 - k - 1)) (min k 70000 + 2048 - (n - 1)) (k + 2048 - (n - 1)) n (omega (arith, ints, g)) (omega (arith, l))
        (under (n - 1 - k - 1) (k + 2048 - (n - 1)) n (omega (arith, g, h)))
    | inr u ↦ let g : n - 1 ≤ k = from-not k (n - 1) u in
        moved (pos k -ℤ pos (n - 1)) (pos (k - (n - 1))) (min k 70000 + 2048 - (n - 1)) (k - (n - 1) + 2048) n (omega (arith, ints, g)) (omega (arith, l, g))
        (at (k - (n - 1)) n)
  ]
]
is-lower (negsuc k) n h = elim (split (nat_lt 999 k)) [
  | inl t ↦ let l : 999 < k = from-lt 999 k t in
      moved (negsuc k -ℤ pos (n - 1)) (negsuc (k + (n - 1))) (2047 - min k 999 - (n - 1)) (2047 - min k 999 - (n - 1)) n (omega (arith, ints)) refl
      (deep (k + (n - 1)) (2047 - min k 999 - (n - 1)) n (omega (arith, l, h)) (omega (arith, l, h)))
  | inr t ↦ let l : k ≤ 999 = from-not 999 k t in
      moved (negsuc k -ℤ pos (n - 1)) (negsuc (k + (n - 1))) (2047 - min k 999 - (n - 1)) (2047 - min k 999 - (n - 1)) n (omega (arith, ints)) refl
      (under (k + (n - 1)) (2047 - min k 999 - (n - 1)) n (omega (arith, l, h)))
]

high-most : (c : Const) → c.left ≤ 65535 → c.right ≤ 65535 → high (bounds_of c) ≤ 65535
high-most c h k = omega (arith, h, k)

pub run_up : (c : Const) (z : ℤ) (n : ℕ) → c.left ≤ 65535 → c.right ≤ 65535 → n ≤ 128 → near_run c (nearby z) n ≡ bits_at c z n
run_up c z n h k m = run-near c z (nearby z) n (high-most c h k) (is-nearby z n m)

pub run_down : (c : Const) (z : ℤ) (n : ℕ) → c.left ≤ 65535 → c.right ≤ 65535 → n ≤ 128 → near_run c (nearby z - (n - 1)) n ≡ bits_at c (z -ℤ pos (n - 1)) n
run_down c z n h k m = run-near c (z -ℤ pos (n - 1)) (nearby z - (n - 1)) n (high-most c h k) (is-lower z n m)

pub run_part : (c : Const) (k n : ℕ) → c.left ≤ 65535 → c.right ≤ 65535 → near_run c (k + 2048) n ≡ bits_at c (pos k) n
run_part c k n h g = run-near c (pos k) (k + 2048) n (high-most c h g) (at k n)

-- ---- the number of an index

abbrev number : Bool → ℕ → ℕ → ℤ
number s w a = if s then signed_of w a else pos a

pub nearby_low : (s : Bool) (w a : ℕ) → a < 2 ^ w → is_negative s w a ≡ true → 2048 - min (magnitude s w a) 1000 ≡ nearby (number s w a)
nearby_low false w a h e = cc
nearby_low true w a h e = elim (split (nat_lt a (2 ^ (w - 1)))) [
  | inl k ↦ absurd (false-true (rw k at e))
  | inr k ↦ rw k (omega (arith, h))
]

pub nearby_high : (s : Bool) (w a : ℕ) → is_negative s w a ≡ false → min (magnitude s w a) 70000 + 2048 ≡ nearby (number s w a)
nearby_high false w a e = refl
nearby_high true w a e = elim (split (nat_lt a (2 ^ (w - 1)))) [
  | inl k ↦ rw k refl
  | inr k ↦ absurd (true-false (rw k at e))
]

pub magnitude_some : (s : Bool) (w a : ℕ) → a < 2 ^ w → is_negative s w a ≡ true → 1 ≤ magnitude s w a
magnitude_some s w a h e = rw e (omega (arith, h))

pub ruleset nearby_rules = (nearby_low, nearby_high, magnitude_some)

pub ruleset run_rules = (run_up, run_down, run_part)

pub ruleset falling_rules = (grows, stays, falling_more, falling_all)

pub ruleset rising_rules = (grows, stays, rising_more)
