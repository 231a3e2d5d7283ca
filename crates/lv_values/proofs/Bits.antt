-- Bits that follow one another: what reading them gives, and what writing them leaves.
use Rattle.std.proofs.Common.{◌≡◌, ℕ, zero, suc, ◌+◌, ◌*◌, ◌/◌, ◌%◌, ◌^◌, ◌<◌, ◌++◌, refl, sym, ◌∙◌, ap, arith}
use Rattle.std.proofs.lemmas.Nat.{pow_pos, pow-add, mod-pow-add, shr_split}
use Rattle.std.proofs.lemmas.Nat.{div-mul-add}
use Rattle.std.proofs.lemmas.List.{append-nil}
use Rattle.std.proofs.Math.Nat.{div-eq_of_lt, pow-suc, div-div-eq-div-mul, mul-add-mod_self_right, mod-eq_of_lt, mod-lt}
use Rattle.lv_bits.proofs.Shifts.{join_lt}
use Rattle.lv_source.specs.Places.{read_bits, write_bits, set_bit}
use Rattle.lv_values.specs.Windows.{nones, somes, run, replaced}

pub read_nones : (a n : ℕ) → read_bits a (nones n) ≡ 0
read_nones a zero = refl
read_nones a (suc n) = ap (λ x. 2 * x) (read_nones a n)

next : (a low : ℕ) → a / 2 ^ low / 2 ≡ a / 2 ^ (low + 1)
next a low = div-div-eq-div-mul a (2 ^ low) 2 ∙ ap (λ k. a / k) (sym (pow-add 2 low 1))

one_more : (x n : ℕ) → x % 2 + 2 * (x / 2 % 2 ^ n) ≡ x % 2 ^ suc n
one_more x n =
    let e : suc n ≡ n + 1 = omega arith in
    let m : x % 2 ^ (n + 1) ≡ (x / 2 ^ 1 % 2 ^ n) * 2 ^ 1 + x % 2 ^ 1 = mod-pow-add x n 1 in
    sym (ap (λ k. x % 2 ^ k) e ∙ (m ∙ omega arith))

read_somes : (a low n above : ℕ) → read_bits a (somes low n ++ nones above) ≡ a / 2 ^ low % 2 ^ n
read_somes a low zero above = read_nones a above ∙ omega arith
read_somes a low (suc n) above =
    ap (λ x. a / 2 ^ low % 2 + 2 * x) (read_somes a (low + 1) n above ∙ ap (λ x. x % 2 ^ n) (sym (next a low))) ∙ one_more (a / 2 ^ low) n

pub read_run : (a below low n above : ℕ) → read_bits a (run below low n above) ≡ (a / 2 ^ low % 2 ^ n) * 2 ^ below
read_run a zero low n above = read_somes a low n above ∙ omega arith
read_run a (suc below) low n above =
    let e : 2 ^ suc below ≡ 2 ^ below * 2 = pow-suc 2 below in
    ap (λ x. 2 * x) (read_run a below low n above) ∙ rw e (grind arith)

-- ---- one bit that is written

rest_of : ℕ → ℕ → ℕ → ℕ
rest_of a k b = b * 2 ^ k + a % 2 ^ k

set_is : (a k b : ℕ) → set_bit a k b ≡ a / 2 ^ (k + 1) * 2 ^ (k + 1) + rest_of a k b
unfolding rest_of
set_is a k b = omega arith

rest_lt : (a k b : ℕ) → b < 2 → rest_of a k b < 2 ^ (k + 1)
unfolding rest_of
rest_lt a k b h =
    let j : b * 2 ^ k + a % 2 ^ k < 2 ^ (1 + k) = join_lt b (a % 2 ^ k) 1 k h (mod-lt a (pow_pos k)) in
    let e : 2 ^ (1 + k) ≡ 2 ^ (k + 1) = ap (λ n. 2 ^ n) (omega arith) in
    omega (arith, j, e)

set_low : (a k b : ℕ) → b < 2 → set_bit a k b % 2 ^ (k + 1) ≡ b * 2 ^ k + a % 2 ^ k
unfolding rest_of
set_low a k b h =
    ap (λ n. n % 2 ^ (k + 1)) (set_is a k b) ∙ (mul-add-mod_self_right (a / 2 ^ (k + 1)) (2 ^ (k + 1)) (rest_of a k b) ∙ mod-eq_of_lt (rest_lt a k b h))

set_high : (a k b : ℕ) → b < 2 → set_bit a k b / 2 ^ (k + 1) ≡ a / 2 ^ (k + 1)
set_high a k b h = ap (λ n. n / 2 ^ (k + 1)) (set_is a k b) ∙ div-mul-add (a / 2 ^ (k + 1)) (2 ^ (k + 1)) (rest_of a k b) (rest_lt a k b h)

above_is : (a k n : ℕ) → a / 2 ^ (k + n) ≡ a / 2 ^ k / 2 ^ n
above_is a k n = ap (λ m. a / m) (pow-add 2 k n) ∙ sym (div-div-eq-div-mul a (2 ^ k) (2 ^ n))

pub write_nones : (a n x : ℕ) → write_bits a (nones n) x ≡ a
write_nones a zero x = refl
write_nones a (suc n) x = write_nones a n (x / 2)

replaced_none : (a low x : ℕ) → a ≡ replaced a low 0 x
replaced_none a low x =
    let e : low + 0 ≡ low = omega arith in
    let s : a / 2 ^ low * 2 ^ low + a % 2 ^ low ≡ a = shr_split a low in
    let z : x % 2 ^ 0 ≡ 0 = omega arith in
    rw (e, z) (sym s ∙ omega arith)

joined_by : (t u p q y z k l r s b : ℕ) → t ≡ u → p ≡ q → b + 2 * y ≡ z → k ≡ l * 2 → r ≡ b * l + s → t * p + (y * k + r) ≡ u * q + (z * l + s)
joined_by t u p q y z k l r s b h i j m o = rw (h, i, m, o) (rw (sym j) (grind arith))

replaced_more : (a low n x : ℕ) → replaced (set_bit a low (x % 2)) (low + 1) n (x / 2) ≡ replaced a low (suc n) x
replaced_more a low n x =
    let b : ℕ = x % 2 in
    let h : b < 2 = omega arith in
    let t : ℕ = set_bit a low b in
    let e : (low + 1) + n ≡ low + suc n = omega arith in
    let high : t / 2 ^ ((low + 1) + n) ≡ a / 2 ^ (low + suc n) =
    above_is t (low + 1) n ∙ (ap (λ m. m / 2 ^ n) (set_high a low b h) ∙ (sym (above_is a (low + 1) n) ∙ ap (λ m. a / 2 ^ m) e)) in
    let low_is : t % 2 ^ (low + 1) ≡ b * 2 ^ low + a % 2 ^ low = set_low a low b h in
    let m : b + 2 * (x / 2 % 2 ^ n) ≡ x % 2 ^ suc n = one_more x n in
    let p : 2 ^ (low + 1) ≡ 2 ^ low * 2 = pow-add 2 low 1 in
    let q : 2 ^ ((low + 1) + n) ≡ 2 ^ (low + suc n) = ap (λ k. 2 ^ k) e in
    joined_by (t / 2 ^ ((low + 1) + n)) (a / 2 ^ (low + suc n)) (2 ^ ((low + 1) + n)) (2 ^ (low + suc n)) (x / 2 % 2 ^ n) (x % 2 ^ suc n) (2 ^ (low + 1)) (2 ^ low) (t % 2 ^ (low + 1)) (a % 2 ^ low) b high q m p low_is

pub write_somes : (a low n above x : ℕ) → write_bits a (somes low n ++ nones above) x ≡ replaced a low n x
write_somes a low zero above x = write_nones a above x ∙ replaced_none a low x
write_somes a low (suc n) above x = write_somes (set_bit a low (x % 2)) (low + 1) n above (x / 2) ∙ replaced_more a low n x

-- what writing a run of bits leaves
pub write_run : (a below low n above x : ℕ) → write_bits a (run below low n above) x ≡ replaced a low n (x / 2 ^ below)
write_run a zero low n above x = write_somes a low n above x ∙ ap (replaced a low n) (omega arith)
write_run a (suc below) low n above x =
    let e : x / 2 / 2 ^ below ≡ x / 2 ^ suc below = div-div-eq-div-mul x 2 (2 ^ below) ∙ ap (λ k. x / k) (let p : 2 ^ suc below ≡ 2 ^ below * 2 = pow-suc 2 below in omega arith) in
    write_run a below low n above (x / 2) ∙ ap (replaced a low n) e

-- all bits of a word
pub read_all_somes : (a n : ℕ) → read_bits a (somes 0 n) ≡ a % 2 ^ n
read_all_somes a n = ap (read_bits a) (sym (append-nil (somes 0 n))) ∙ (read_somes a 0 n 0 ∙ (let one_is : a / 2 ^ 0 ≡ a = omega arith in ap (λ x. x % 2 ^ n) one_is))

pub write_all_somes : (a n x : ℕ) → a < 2 ^ n → write_bits a (somes 0 n) x ≡ x % 2 ^ n
write_all_somes a n x h =
    let z : a / 2 ^ (0 + n) ≡ 0 = ap (λ k. a / 2 ^ k) (let e : 0 + n ≡ n = omega arith in e) ∙ div-eq_of_lt h in
    let j : replaced a 0 n x ≡ x % 2 ^ n = rw z (omega arith) in
    ap (λ ks. write_bits a ks x) (sym (append-nil (somes 0 n))) ∙ (write_somes a 0 n 0 x ∙ j)
