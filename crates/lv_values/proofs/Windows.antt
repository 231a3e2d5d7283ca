-- Numbers that follow one another, by the bounds of a declaration, and the places of the bits with these numbers.
use Rattle.std.proofs.Common.{◌≡◌, ℕ, zero, suc, ◌+◌, ◌-◌, ◌<◌, ◌≤◌, Bool, true, false, not, ◌&&◌, List, [], ◌∷◌, ◌++◌, map, refl, sym, ◌∙◌, ap, subst, arith, Option, Some, None, ℤ, pos, negsuc, ◌+ℤ◌, append_assoc}
use Rattle.std.specs.Prelude.{reverse, nat_lt, if◌then◌else◌, min, max}
use Rattle.std.proofs.lemmas.List.{reverse-append, map-append, append-nil}
use Rattle.std.proofs.lemmas.Bool.Decides.{nat_tests}
use Rattle.std.proofs.lemmas.Int.{ints}
use Rattle.lv_source.specs.Names.{Bounds, low, high}
use Rattle.lv_source.specs.Places.{falls, within, rising, bit_place, bits_from}
use Rattle.lv_values.specs.Windows.{nones, somes, run, number_in}

lt-true : (a b : ℕ) → a < b → nat_lt a b ≡ true
lt-true a b h = grind (arith, nat_tests)

le-false : (a b : ℕ) → b ≤ a → nat_lt a b ≡ false
le-false a b h = grind (arith, nat_tests)

-- ---- numbers

either : (p q : Bool) (i : ℕ) → q ≡ true → (if not p && not q then Some i else None) ≡ None
either true q i h = refl
either false q i h = rw h refl

first_of : (p q : Bool) (i : ℕ) → p ≡ true → (if not p && not q then Some i else None) ≡ None
first_of p q i h = rw h refl

both : (p q : Bool) (i : ℕ) → p ≡ false → q ≡ false → (if not p && not q then Some i else None) ≡ Some i
both p q i h k = rw (h, k) refl

out_above : (l h i : ℕ) → h < i → number_in l h (pos i) ≡ None
out_above l h i lt = either (nat_lt i l) (nat_lt h i) i (lt-true h i lt)

out_below : (l h i : ℕ) → i < l → number_in l h (pos i) ≡ None
out_below l h i lt = first_of (nat_lt i l) (nat_lt h i) i (lt-true i l lt)

in_both : (l h i : ℕ) → l ≤ i → i ≤ h → number_in l h (pos i) ≡ Some i
in_both l h i le ge = both (nat_lt i l) (nat_lt h i) i (le-false i l le) (le-false h i ge)

two : {A : Type 0} {a b : A} {xs ys : List A} → a ≡ b → xs ≡ ys → a ∷ xs ≡ b ∷ ys
two {b = b} {xs = xs} h k = ap (λ x. x ∷ xs) h ∙ ap (λ zs. b ∷ zs) k

pub above : (l h i n : ℕ) → h < i → map (number_in l h) (rising (pos i) n) ≡ nones n
above l h i zero lt = refl
above l h i (suc n) lt = two (out_above l h i lt) (above l h (i + 1) n (omega arith))

tail : (l h i a : ℕ) → (0 < a → h < i) → map (number_in l h) (rising (pos i) a) ≡ nones a
tail l h i zero f = refl
tail l h i (suc a) f = above l h i (suc a) (f (omega arith))

among : (l h i c a n : ℕ) → n ≡ c + a → (0 < c → l ≤ i) → (0 < c → i + c ≤ h + 1) → (0 < a → h < i + c) → map (number_in l h) (rising (pos i) n) ≡ somes i c ++ nones a
among l h i zero a n e f g k =
    let m : n ≡ a = omega (arith, e) in
    ap (λ x. map (number_in l h) (rising (pos i) x)) m ∙ tail l h i a (λ t. omega (arith, k t))
among l h i (suc c) a zero e f g k = absurd (omega (arith, e))
among l h i (suc c) a (suc n) e f g k =
    let p : l ≤ i = f (omega arith) in
    let q : i + suc c ≤ h + 1 = g (omega arith) in
    two (in_both l h i p (omega (arith, q))) (among l h (i + 1) c a n (omega (arith, e)) (λ t. omega (arith, p)) (λ t. omega (arith, q)) (λ t. omega (arith, k t)))

pub below : (l h i k n m : ℕ) → n ≡ k + m → (0 < k → i + k ≤ l) → map (number_in l h) (rising (pos i) n) ≡ nones k ++ map (number_in l h) (rising (pos (i + k)) m)
below l h i zero n m e f =
    let p : n ≡ m = omega (arith, e) in
    let q : i ≡ i + 0 = omega arith in
    ap (λ x. map (number_in l h) (rising (pos i) x)) p ∙ ap (λ x. map (number_in l h) (rising (pos x) m)) q
below l h i (suc k) zero m e f = absurd (omega (arith, e))
below l h i (suc k) (suc n) m e f =
    let p : i + suc k ≤ l = f (omega arith) in
    let q : (i + 1) + k ≡ i + suc k = omega arith in
    two (out_below l h i (omega (arith, p))) (below l h (i + 1) k n m (omega (arith, e)) (λ t. omega (arith, p)) ∙ ap (λ x. nones k ++ map (number_in l h) (rising (pos x) m)) q)

start : (i j c : ℕ) → (0 < c → j ≡ i) → somes i c ≡ somes j c
start i j zero f = refl
start i j (suc c) f = ap (λ x. somes x (suc c)) (sym (f (omega arith)))

pub numbers_up : (l h i k first c a n : ℕ) → n ≡ k + (c + a) → (0 < k → i + k ≤ l) → (0 < c → l ≤ i + k) → (0 < c → first ≡ i + k) → (0 < c → (i + k) + c ≤ h + 1) → (0 < a → h < (i + k) + c) →
    map (number_in l h) (rising (pos i) n) ≡ run k first c a
numbers_up l h i k first c a n e f g j p q =
    below l h i k n (c + a) e f ∙ ap (λ xs. nones k ++ xs) (among l h (i + k) c a (c + a) refl g p q ∙ ap (λ xs. xs ++ nones a) (start (i + k) first c j))

pub negative : (l h i n : ℕ) → n ≤ suc i → map (number_in l h) (rising (negsuc i) n) ≡ nones n
negative l h i zero e = refl
negative l h zero (suc zero) e = refl
negative l h zero (suc (suc n)) e = absurd (omega arith)
negative l h (suc i) (suc n) e =
    let s : negsuc (suc i) +ℤ pos 1 ≡ negsuc i = omega (arith, ints) in
    ap (λ z. None ∷ map (number_in l h) (rising z n)) s ∙ ap (λ xs. None ∷ xs) (negative l h i n (omega arith))

pub through : (l h i n m : ℕ) → n ≡ suc i + m → map (number_in l h) (rising (negsuc i) n) ≡ nones (suc i) ++ map (number_in l h) (rising (pos 0) m)
through l h i zero m e = absurd (omega (arith, e))
through l h zero (suc n) m e =
    let s : negsuc 0 +ℤ pos 1 ≡ pos 0 = omega (arith, ints) in
    let p : n ≡ m = omega (arith, e) in
    ap (λ z. None ∷ map (number_in l h) (rising z n)) s ∙ ap (λ x. None ∷ map (number_in l h) (rising (pos 0) x)) p
through l h (suc i) (suc n) m e =
    let s : negsuc (suc i) +ℤ pos 1 ≡ negsuc i = omega (arith, ints) in
    ap (λ z. None ∷ map (number_in l h) (rising z n)) s ∙ ap (λ xs. None ∷ xs) (through l h i n m (omega (arith, e)))

-- ---- places

mapped : (ℕ → ℕ) → Option ℕ → Option ℕ
mapped f None = None
mapped f (Some i) = Some (f i)

each : {A B C : Type 0} (f : A → B) (g : B → C) (h : A → C) → ((x : A) → h x ≡ g (f x)) → (xs : List A) → map h xs ≡ map g (map f xs)
each f g h e [] = refl
each f g h e (x ∷ xs) = two (e x) (each f g h e xs)

map-reverse : {A B : Type 0} (f : A → B) (xs : List A) → map f (reverse xs) ≡ reverse (map f xs)
map-reverse f [] = refl
map-reverse f (x ∷ xs) = ap (map f) (reverse-append (x ∷ []) xs) ∙ (map-append f (reverse xs) (x ∷ []) ∙ (ap (λ ys. ys ++ f x ∷ []) (map-reverse f xs) ∙ sym (reverse-append (f x ∷ []) (map f xs))))

nones-more : (n : ℕ) → nones n ++ None ∷ [] ≡ None ∷ nones n
nones-more zero = refl
nones-more (suc n) = ap (λ xs. None ∷ xs) (nones-more n)

reverse-nones : (n : ℕ) → reverse (nones n) ≡ nones n
reverse-nones zero = refl
reverse-nones (suc n) = reverse-append (None ∷ []) (nones n) ∙ (ap (λ xs. xs ++ None ∷ []) (reverse-nones n) ∙ nones-more n)

mapped-nones : (f : ℕ → ℕ) (n : ℕ) → map (mapped f) (nones n) ≡ nones n
unfolding mapped
mapped-nones f zero = refl
mapped-nones f (suc n) = ap (λ xs. None ∷ xs) (mapped-nones f n)

pub somes-more : (low n : ℕ) → somes low (suc n) ≡ somes low n ++ Some (low + n) ∷ []
somes-more low zero = let e : low ≡ low + 0 = omega arith in ap (λ k. Some k ∷ []) e
somes-more low (suc n) =
    let e : (low + 1) + n ≡ low + suc n = omega arith in
    ap (λ ks. Some low ∷ ks) (somes-more (low + 1) n ∙ ap (λ k. somes (low + 1) n ++ Some k ∷ []) e)

-- places that rise with the numbers
risen : (r first c : ℕ) → r ≤ first → map (mapped (λ i. i - r)) (somes first c) ≡ somes (first - r) c
unfolding mapped
risen r first zero h = refl
risen r first (suc c) h = let e : first + 1 - r ≡ first - r + 1 = omega (arith, h) in two refl (risen r (first + 1) c (omega (arith, h)) ∙ ap (λ k. somes k c) e)

-- places that fall
fallen : (r first c : ℕ) → first + c ≤ r + 1 → reverse (map (mapped (λ i. r - i)) (somes first c)) ≡ somes (r - first + 1 - c) c
unfolding mapped
fallen r first zero h = refl
fallen r first (suc zero) h = let p : r - first ≡ r - first + 1 - 1 = omega arith in ap (λ k. Some k ∷ []) p
fallen r first (suc (suc c)) h =
    let e : r - (first + 1) + 1 - suc c ≡ r - first + 1 - suc (suc c) = omega (arith, h) in
    let p : r - first ≡ r - first + 1 - suc (suc c) + suc c = omega (arith, h) in
    reverse-append (Some (r - first) ∷ []) (map (mapped (λ i. r - i)) (somes (first + 1) (suc c))) ∙
    (ap (λ xs. xs ++ Some (r - first) ∷ []) (fallen r (first + 1) (suc c) (omega (arith, h))) ∙
    (ap (λ k. somes k (suc c) ++ Some (r - first) ∷ []) e ∙
    (ap (λ k. somes (r - first + 1 - suc (suc c)) (suc c) ++ Some k ∷ []) p ∙ sym (somes-more (r - first + 1 - suc (suc c)) (suc c)))))

three : (f : Option ℕ → Option ℕ) (xs ys zs : List (Option ℕ)) → map f (xs ++ (ys ++ zs)) ≡ map f xs ++ (map f ys ++ map f zs)
three f xs ys zs = map-append f xs (ys ++ zs) ∙ ap (λ us. map f xs ++ us) (map-append f ys zs)

turned : (xs ys zs : List (Option ℕ)) → reverse (xs ++ (ys ++ zs)) ≡ reverse zs ++ (reverse ys ++ reverse xs)
turned xs ys zs = reverse-append xs (ys ++ zs) ∙ (ap (λ us. us ++ reverse xs) (reverse-append ys zs) ∙ append_assoc (reverse zs) (reverse ys) (reverse xs))

place_in : (b : Bounds) (f : ℕ → ℕ) → ((i : ℕ) → (if falls b then i - b.right else b.right - i) ≡ f i) → (z : ℤ) → bit_place b z ≡ mapped f (number_in (low b) (high b) z)
unfolding mapped
place_in b f e (negsuc i) = refl
place_in b f e (pos i) = elim (within (low b) (high b) i) as (λ c. (if c then Some (if falls b then i - b.right else b.right - i) else None) ≡ mapped f (if c then Some i else None)) [
  | true ↦ ap (λ k. Some k) (e i)
  | false ↦ refl
]

pub falling_bits : (b : Bounds) (z : ℤ) (n k first c a : ℕ) → falls b ≡ true → map (number_in (low b) (high b)) (rising z n) ≡ run k first c a → b.right ≤ first → bits_from b z n ≡ run k (first - b.right) c a
falling_bits b z n k first c a h e g =
    let f : ℕ → ℕ = λ i. i - b.right in
    let p : (i : ℕ) → (if falls b then i - b.right else b.right - i) ≡ f i = λ i. rw h refl in
    let s : bits_from b z n ≡ map (bit_place b) (rising z n) = rw h refl in
    s ∙ (each (number_in (low b) (high b)) (mapped f) (bit_place b) (place_in b f p) (rising z n) ∙ (ap (map (mapped f)) e ∙ (three (mapped f) (nones k) (somes first c) (nones a) ∙
    (ap (λ xs. xs ++ (map (mapped f) (somes first c) ++ map (mapped f) (nones a))) (mapped-nones f k) ∙
    (ap (λ xs. nones k ++ (xs ++ map (mapped f) (nones a))) (risen b.right first c g) ∙ ap (λ xs. nones k ++ (somes (first - b.right) c ++ xs)) (mapped-nones f a))))))

pub rising_bits : (b : Bounds) (z : ℤ) (n k first c a : ℕ) → falls b ≡ false → map (number_in (low b) (high b)) (rising z n) ≡ run k first c a → first + c ≤ b.right + 1 →
    bits_from b z n ≡ run a (b.right - first + 1 - c) c k
rising_bits b z n k first c a h e g =
    let f : ℕ → ℕ = λ i. b.right - i in
    let p : (i : ℕ) → (if falls b then i - b.right else b.right - i) ≡ f i = λ i. rw h refl in
    let s : bits_from b z n ≡ map (bit_place b) (reverse (rising z n)) = rw h refl in
    let m : map (bit_place b) (rising z n) ≡ nones k ++ (map (mapped f) (somes first c) ++ nones a) =
    each (number_in (low b) (high b)) (mapped f) (bit_place b) (place_in b f p) (rising z n) ∙ (ap (map (mapped f)) e ∙ (three (mapped f) (nones k) (somes first c) (nones a) ∙
    (ap (λ xs. xs ++ (map (mapped f) (somes first c) ++ map (mapped f) (nones a))) (mapped-nones f k) ∙ ap (λ xs. nones k ++ (map (mapped f) (somes first c) ++ xs)) (mapped-nones f a)))) in
    s ∙ (map-reverse (bit_place b) (rising z n) ∙ (ap reverse m ∙ (turned (nones k) (map (mapped f) (somes first c)) (nones a) ∙
    (ap (λ xs. xs ++ (reverse (map (mapped f) (somes first c)) ++ reverse (nones k))) (reverse-nones a) ∙
    (ap (λ xs. nones a ++ (xs ++ reverse (nones k))) (fallen b.right first c g) ∙ ap (λ xs. nones a ++ (somes (b.right - first + 1 - c) c ++ xs)) (reverse-nones k))))))

joins : (a b c : ℕ) → a + b ≡ c → nones a ++ nones b ≡ nones c
joins zero b c e = ap nones (let s : b ≡ c = omega (arith, e) in s)
joins (suc a) b zero e = absurd (omega (arith, e))
joins (suc a) b (suc c) e = ap (λ xs. None ∷ xs) (joins a b c (omega (arith, e)))

pub all_before : (n first : ℕ) → nones n ≡ run n first 0 0
all_before n first = sym (append-nil (nones n))

pub through_more : (l h i n m before first count after : ℕ) → n ≡ (i + 1) + m → map (number_in l h) (rising (pos 0) m) ≡ run before first count after →
    map (number_in l h) (rising (negsuc i) n) ≡ run ((i + 1) + before) first count after
through_more l h i n m before first count after e f =
    through l h i n m (omega (arith, e)) ∙ (ap (λ xs. nones (suc i) ++ xs) f ∙ (sym (append_assoc (nones (suc i)) (nones before) (somes first count ++ nones after)) ∙
    ap (λ xs. xs ++ (somes first count ++ nones after)) (joins (suc i) before ((i + 1) + before) (omega arith))))

pub window_falls : (left right n k first c a low : ℕ) (z : ℤ) → right ≤ left → low ≡ right → (let b : Bounds = record { left = left; right = right } in
    map (number_in right left) (rising z n) ≡ run k first c a → right ≤ first → bits_from b z n ≡ run k (first - low) c a)
window_falls left right n k first c a low z le e f g =
    let b : Bounds = record { left = left; right = right } in
    let h : falls b ≡ true = ap not (le-false left right le) in
    let l : right ≡ min left right = omega arith in
    let m : left ≡ max left right = omega arith in
    let f2 : map (number_in (min left right) (max left right)) (rising z n) ≡ run k first c a = subst (λ i. map (number_in i (max left right)) (rising z n) ≡ run k first c a) l (subst (λ i. map (number_in right i) (rising z n) ≡ run k first c a) m f) in
    falling_bits b z n k first c a h f2 g ∙ ap (λ i. run k (first - i) c a) (sym e)

pub window_rises : (left right n k first c a high : ℕ) (z : ℤ) → left < right → high ≡ right → (let b : Bounds = record { left = left; right = right } in
    map (number_in left right) (rising z n) ≡ run k first c a → first + c ≤ right + 1 → bits_from b z n ≡ run a (high - first + 1 - c) c k)
window_rises left right n k first c a high z lt e f g =
    let b : Bounds = record { left = left; right = right } in
    let h : falls b ≡ false = ap not (lt-true left right lt) in
    let l : left ≡ min left right = omega arith in
    let m : right ≡ max left right = omega arith in
    let f2 : map (number_in (min left right) (max left right)) (rising z n) ≡ run k first c a = subst (λ i. map (number_in i (max left right)) (rising z n) ≡ run k first c a) l (subst (λ i. map (number_in left i) (rising z n) ≡ run k first c a) m f) in
    rising_bits b z n k first c a h f2 g ∙ ap (λ i. run a (i - first + 1 - c) c k) (sym e)
