-- What lists of bits mean as numbers.
use Rattle.std.proofs.Common.{◌≡◌, ℕ, ◌+◌, ◌*◌, ◌/◌, ◌%◌, ◌^◌, ◌<◌, Bool, true, false, not, ◌&&◌, ◌||◌, if◌then◌else◌, ◌==◌, List, [], ◌∷◌, length, map, refl, sym, ◌∙◌, ap, arith, bit_and, bit_or, bit_xor, count_ones, suc, zero-add}
use Rattle.std.proofs.lemmas.Nat.{and_block, or_block, xor_block, ones_le_self}
use Rattle.std.proofs.lemmas.Bool.Decides.{nat_tests}
use Rattle.std.proofs.Math.Nat.{mul_assoc}
use Rattle.std.specs.Int.Count.{ones_step}
use Rattle.lv_bits.specs.Values.{bit}
use Rattle.lv_bits.specs.Digits.{number}
use Rattle.lv_bits.proofs.Digits.{bit_lt, pow_cons, number_lt}
use Rattle.lv_circuits.specs.Words.{zip_bits, fold_bits, xor, sum_bits, carry_out}

and_bit : (a b : Bool) → bit (a && b) ≡ bit_and (bit a) (bit b)
and_bit true true = refl
and_bit true false = refl
and_bit false true = refl
and_bit false false = refl

or_bit : (a b : Bool) → bit (a || b) ≡ bit_or (bit a) (bit b)
or_bit true true = refl
or_bit true false = refl
or_bit false true = refl
or_bit false false = refl

xor_bit : (a b : Bool) → bit (xor a b) ≡ bit_xor (bit a) (bit b)
xor_bit true true = refl
xor_bit true false = refl
xor_bit false true = refl
xor_bit false false = refl

pub number_and : (xs ys : List Bool) → length xs ≡ length ys → number (zip_bits (λ a b. a && b) xs ys) ≡ bit_and (number xs) (number ys)
number_and [] [] h = refl
number_and [] (b ∷ ys) h = absurd (omega arith)
number_and (a ∷ xs) [] h = absurd (omega arith)
number_and (a ∷ xs) (b ∷ ys) h =
    let r : number (zip_bits (λ a b. a && b) xs ys) ≡ bit_and (number xs) (number ys) = number_and xs ys (omega arith) in
    ap (λ (n : ℕ). n * 2 + bit (a && b)) r ∙ (ap (λ (n : ℕ). bit_and (number xs) (number ys) * 2 + n) (and_bit a b) ∙ sym (and_block 1 (number xs) (number ys) (bit a) (bit b) (bit_lt a) (bit_lt b)))

pub number_or : (xs ys : List Bool) → length xs ≡ length ys → number (zip_bits (λ a b. a || b) xs ys) ≡ bit_or (number xs) (number ys)
number_or [] [] h = refl
number_or [] (b ∷ ys) h = absurd (omega arith)
number_or (a ∷ xs) [] h = absurd (omega arith)
number_or (a ∷ xs) (b ∷ ys) h =
    let r : number (zip_bits (λ a b. a || b) xs ys) ≡ bit_or (number xs) (number ys) = number_or xs ys (omega arith) in
    ap (λ (n : ℕ). n * 2 + bit (a || b)) r ∙ (ap (λ (n : ℕ). bit_or (number xs) (number ys) * 2 + n) (or_bit a b) ∙ sym (or_block 1 (number xs) (number ys) (bit a) (bit b) (bit_lt a) (bit_lt b)))

pub number_xor : (xs ys : List Bool) → length xs ≡ length ys → number (zip_bits xor xs ys) ≡ bit_xor (number xs) (number ys)
number_xor [] [] h = refl
number_xor [] (b ∷ ys) h = absurd (omega arith)
number_xor (a ∷ xs) [] h = absurd (omega arith)
number_xor (a ∷ xs) (b ∷ ys) h =
    let r : number (zip_bits xor xs ys) ≡ bit_xor (number xs) (number ys) = number_xor xs ys (omega arith) in
    ap (λ (n : ℕ). n * 2 + bit (xor a b)) r ∙ (ap (λ (n : ℕ). bit_xor (number xs) (number ys) * 2 + n) (xor_bit a b) ∙ sym (xor_block 1 (number xs) (number ys) (bit a) (bit b) (bit_lt a) (bit_lt b)))

not_bit : (b : Bool) → bit (not b) + bit b ≡ 1
not_bit true = refl
not_bit false = refl

pub number_not : (bs : List Bool) → number (map not bs) + number bs + 1 ≡ 2 ^ length bs
number_not [] = refl
number_not (b ∷ bs) = omega (arith, number_not bs, not_bit b, pow_cons (length bs))

any_step : (c b : Bool) (n : ℕ) → ((c || b) || not (n == 0)) ≡ (c || not (n * 2 + bit b == 0))
any_step true b n = refl
any_step false true n = grind (arith, nat_tests)
any_step false false n = grind (arith, nat_tests)

-- a fold with `or` is true where it began so, or a bit is set
any_from : (c : Bool) (bs : List Bool) → fold_bits (λ a b. a || b) c bs ≡ (c || not (number bs == 0))
any_from true [] = refl
any_from false [] = refl
any_from c (b ∷ bs) = any_from (c || b) bs ∙ any_step c b (number bs)

pub any_set : (bs : List Bool) → fold_bits (λ a b. a || b) false bs ≡ not (number bs == 0)
any_set bs = any_from false bs

ones_cons : (b : Bool) (n : ℕ) → count_ones (n * 2 + bit b) ≡ bit b + count_ones n
ones_cons b n =
    let m : (n * 2 + bit b) % 2 ≡ bit b = omega (arith, bit_lt b) in
    let d : (n * 2 + bit b) / 2 ≡ n = omega (arith, bit_lt b) in
    ones_step (n * 2 + bit b) ∙ (ap (λ (k : ℕ). k + count_ones ((n * 2 + bit b) / 2)) m ∙ ap (λ (k : ℕ). bit b + count_ones k) d)

parity_bit : (c b : Bool) (k : ℕ) → (bit (xor c b) + k) % 2 ≡ (bit c + (bit b + k)) % 2
parity_bit true true k = omega arith
parity_bit true false k = omega arith
parity_bit false true k = omega arith
parity_bit false false k = omega arith

parity_from : (c : Bool) (bs : List Bool) → bit (fold_bits xor c bs) ≡ (bit c + count_ones (number bs)) % 2
parity_from true [] = let z : count_ones 0 ≡ 0 = omega (arith, ones_le_self 0) in rw z refl
parity_from false [] = let z : count_ones 0 ≡ 0 = omega (arith, ones_le_self 0) in rw z refl
parity_from c (b ∷ bs) = parity_from (xor c b) bs ∙ (parity_bit c b (count_ones (number bs)) ∙ ap (λ (n : ℕ). (bit c + n) % 2) (sym (ones_cons b (number bs))))

pub odd_set : (bs : List Bool) → bit (fold_bits xor false bs) ≡ count_ones (number bs) % 2
odd_set bs = parity_from false bs ∙ ap (λ (n : ℕ). n % 2) (zero-add (count_ones (number bs)))

-- one digit of a sum
full_by : (a b c : Bool) → bit (xor (xor a b) c) + bit (if xor a b then c else a) * 2 ≡ bit a + bit b + bit c
full_by true true true = refl
full_by true true false = refl
full_by true false true = refl
full_by true false false = refl
full_by false true true = refl
full_by false true false = refl
full_by false false true = refl
full_by false false false = refl

-- the sum's bits and its carry
pub number_sum : (c : Bool) (xs ys : List Bool) → length xs ≡ length ys → number (sum_bits c xs ys) + bit (carry_out c xs ys) * 2 ^ length xs ≡ number xs + number ys + bit c
number_sum c [] [] h = omega arith
number_sum c [] (y ∷ ys) h = absurd (omega arith)
number_sum c (x ∷ xs) [] h = absurd (omega arith)
number_sum c (x ∷ xs) (y ∷ ys) h =
    let d : Bool = if xor x y then c else x in
    let r : number (sum_bits d xs ys) + bit (carry_out d xs ys) * 2 ^ length xs ≡ number xs + number ys + bit d = number_sum d xs ys (omega arith) in
    let e : bit (carry_out d xs ys) * 2 ^ suc (length xs) ≡ bit (carry_out d xs ys) * 2 ^ length xs * 2 = ap (λ (n : ℕ). bit (carry_out d xs ys) * n) (pow_cons (length xs)) ∙ sym (mul_assoc (bit (carry_out d xs ys)) (2 ^ length xs) 2) in
    omega (arith, r, e, full_by x y c)

pub length_sum : (c : Bool) (xs ys : List Bool) → length xs ≡ length ys → length (sum_bits c xs ys) ≡ length xs
length_sum c [] [] h = refl
length_sum c [] (y ∷ ys) h = absurd (omega arith)
length_sum c (x ∷ xs) [] h = absurd (omega arith)
length_sum c (x ∷ xs) (y ∷ ys) h = ap suc (length_sum (if xor x y then c else x) xs ys (omega arith))
