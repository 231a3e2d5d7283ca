-- What lists of bits mean as numbers, and that each list of words is that of some bits.
use Rattle.std.proofs.Common.{◌≡◌, ℕ, zero, suc, ◌+◌, ◌-◌, ◌*◌, ◌/◌, ◌%◌, ◌^◌, ◌<◌, ◌==◌, Bool, true, false, List, [], ◌∷◌, ◌++◌, length, get_or, refl, sym, ◌∙◌, ap, subst, arith}
use Rattle.std.proofs.Math.Nat.{pow-suc}
use Rattle.std.proofs.Math.Seq.{get_or-append_seam}
use Rattle.std.proofs.lemmas.List.{append_assoc, length-append}
use Rattle.lv_bits.specs.Words.{Bits}
use Rattle.lv_bits.specs.Values.{bit}
use Rattle.lv_bits.specs.Digits.{number, bits_from, words_from, widths_of}

pub bit_lt : (b : Bool) → bit b < 2
bit_lt true = omega arith
bit_lt false = omega arith

pub pow_cons : (n : ℕ) → 2 ^ suc n ≡ 2 ^ n * 2
pow_cons n = pow-suc 2 n

pub number_lt : (bs : List Bool) → number bs < 2 ^ length bs
number_lt [] = omega arith
number_lt (b ∷ bs) = omega (arith, number_lt bs, bit_lt b, pow_cons (length bs))

pub length_bits : (v : ℕ → Bool) (k n : ℕ) → length (bits_from v k n) ≡ n
length_bits v k zero = refl
length_bits v k (suc n) = ap suc (length_bits v (k + 1) n)

pub bits_lt : (v : ℕ → Bool) (k n : ℕ) → number (bits_from v k n) < 2 ^ n
bits_lt v k n = subst (λ (m : ℕ). number (bits_from v k n) < 2 ^ m) (length_bits v k n) (number_lt (bits_from v k n))

pub length_words : (v : ℕ → Bool) (k : ℕ) (ws : List ℕ) → length (words_from v k ws) ≡ length ws
length_words v k [] = refl
length_words v k (w ∷ ws) = ap suc (length_words v (k + w) ws)

-- the lowest bits of a number
abbrev pub digits : ℕ → ℕ → List Bool
digits zero n = []
digits (suc w) n = (n % 2 == 1) ∷ digits w (n / 2)

bit_rest : (r : ℕ) → r < 2 → bit (r == 1) ≡ r
bit_rest zero h = refl
bit_rest (suc zero) h = refl
bit_rest (suc (suc r)) h = absurd (omega arith)

pub number_digits : (w n : ℕ) → n < 2 ^ w → number (digits w n) ≡ n
number_digits zero n h = omega arith
number_digits (suc w) n h =
    let half : n / 2 < 2 ^ w = omega (arith, pow_cons w) in
    let ih : number (digits w (n / 2)) ≡ n / 2 = number_digits w (n / 2) half in
    let b : bit (n % 2 == 1) ≡ n % 2 = bit_rest (n % 2) (omega arith) in
    omega (arith, ih, b)

length_digits : (w n : ℕ) → length (digits w n) ≡ w
length_digits zero n = refl
length_digits (suc w) n = ap suc (length_digits w (n / 2))

abbrev pub all_digits : List Bits → List Bool
all_digits [] = []
all_digits (x ∷ xs) = digits x.width x.value ++ all_digits xs

-- the value of variable v stands at place v - 1
abbrev pub at_place : List Bool → ℕ → Bool
at_place list v = get_or list (v - 1) false

-- each value fits its width
abbrev pub HoldWords : List Bits → Type 0
HoldWords [] = Unit {0}
HoldWords (x ∷ xs) = (x.value < 2 ^ x.width) × HoldWords xs

pub hold_append : (xs ys : List Bits) → HoldWords xs → HoldWords ys → HoldWords (xs ++ ys)
hold_append [] ys h g = g
hold_append (x ∷ xs) ys h g = (h.0, hold_append xs ys h.1 g)

bits_seam : (list pre d rest : List Bool) (k : ℕ) → list ≡ pre ++ (d ++ rest) → k ≡ length pre + 1 → bits_from (at_place list) k (length d) ≡ d
bits_seam list pre [] rest k e f = refl
bits_seam list pre (x ∷ d) rest k e f =
    let place : k - 1 ≡ length pre = omega arith in
    let here : at_place list k ≡ x =
    ap (λ (l : List Bool). get_or l (k - 1) false) e ∙ (ap (λ (j : ℕ). get_or (pre ++ (x ∷ (d ++ rest))) j false) place ∙ get_or-append_seam pre x (d ++ rest) false) in
    let more : k + 1 ≡ length (pre ++ x ∷ []) + 1 = omega (arith, f, length-append pre (x ∷ [])) in
    let later : bits_from (at_place list) (k + 1) (length d) ≡ d = bits_seam list (pre ++ x ∷ []) d rest (k + 1) (e ∙ sym (append_assoc pre (x ∷ []) (d ++ rest))) more in
    cc

words_seam : (list pre : List Bool) (xs : List Bits) (k : ℕ) → HoldWords xs → list ≡ pre ++ all_digits xs → k ≡ length pre + 1 → words_from (at_place list) k (widths_of xs) ≡ xs
words_seam list pre [] k h e f = refl
words_seam list pre (x ∷ xs) k h e f =
    let d : List Bool = digits x.width x.value in
    let n : length d ≡ x.width = length_digits x.width x.value in
    let here : bits_from (at_place list) k x.width ≡ d = subst (λ (m : ℕ). bits_from (at_place list) k m ≡ d) n (bits_seam list pre d (all_digits xs) k e f) in
    let value : number (bits_from (at_place list) k x.width) ≡ x.value = ap number here ∙ number_digits x.width x.value h.0 in
    let next : k + x.width ≡ length (pre ++ d) + 1 = omega (arith, f, n, length-append pre d) in
    let later : words_from (at_place list) (k + x.width) (widths_of xs) ≡ xs =
    words_seam list (pre ++ d) xs (k + x.width) h.1 (e ∙ sym (append_assoc pre d (all_digits xs))) next in
    ap (λ (v : ℕ). (let y : Bits = record { width = x.width; value = v } in y) ∷ words_from (at_place list) (k + x.width) (widths_of xs)) value ∙ ap (λ (ys : List Bits). x ∷ ys) later

-- some values of the variables from 1 on have these words
pub values_have_words : (ws : List ℕ) (xs : List Bits) → widths_of xs ≡ ws → HoldWords xs → words_from (at_place (all_digits xs)) 1 ws ≡ xs
values_have_words ws xs e h = subst (λ (vs : List ℕ). words_from (at_place (all_digits xs)) 1 vs ≡ xs) e (words_seam (all_digits xs) [] xs 1 h refl refl)
