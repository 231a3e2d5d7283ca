-- A number made of its bits.
use Rattle.std.proofs.Common.{◌≡◌, inl, inr, ℕ, zero, suc, ◌+◌, ◌-◌, ◌*◌, ◌^◌, ◌<◌, sym, ap, ◌∙◌, subst, arith}
use Rattle.std.proofs.lemmas.Bool.{cases_lt}
use Rattle.std.proofs.lemmas.Nat.{pow_pos}
use Rattle.std.proofs.lemmas.Nat.Bits.{bit_at_cat_low, bit_at_cat_high}
use Rattle.lv_bits.proofs.Shifts.{join_lt}
use Rattle.lv_source.proofs.Writes.{bit_of}

-- the number of n bits, by these
pub number_of_bits : (ℕ → ℕ) → ℕ → ℕ
number_of_bits f zero = 0
number_of_bits f (suc n) = f n * 2 ^ n + number_of_bits f n

module _ (f : ℕ → ℕ) (h : (i : ℕ) → f i < 2) where
  pub number_lt : (n : ℕ) → number_of_bits f n < 2 ^ n
  unfolding number_of_bits
  number_lt zero = omega (arith, pow_pos 0)
  number_lt (suc n) =
      let one : f n < 2 ^ 1 = h n in
      let e : 1 + n ≡ suc n = omega arith in
      subst (λ (k : ℕ). f n * 2 ^ n + number_of_bits f n < 2 ^ k) e (join_lt (f n) (number_of_bits f n) 1 n one (number_lt n))

  pub number_bit : (n i : ℕ) → i < n → bit_of (number_of_bits f n) i ≡ f i
  unfolding number_of_bits
  number_bit zero i k = absurd (omega arith)
  number_bit (suc n) i k = elim (cases_lt i n) [
    | inl below ↦ bit_at_cat_low (f n) n (number_of_bits f n) i below ∙ number_bit n i below
    | inr above ↦ (let e : i ≡ n = omega arith in
        bit_at_cat_high (f n) n (number_of_bits f n) i (number_lt n) above ∙
        (let z : i - n ≡ 0 = omega arith in let two : f n < 2 = h n in ap (λ j. bit_of (f n) j) z ∙ ((let low : bit_of (f n) 0 ≡ f n = omega arith in low) ∙ ap f (sym e))))
  ]
