-- Division of numbers with signs, by their magnitudes.
use Rattle.std.proofs.Common.{◌≡◌, ℕ, zero, suc, ◌-◌, ◌/◌, ◌%◌, ◌^◌, ◌≤◌, ◌<◌, ◌==◌, Bool, true, false, ap, ◌∙◌, sym, refl, arith, inl, inr, ℤ, pos, negsuc, neg_ℤ}
use Rattle.std.specs.Prelude.{nat_lt, int_div, int_rem}
use Rattle.std.proofs.lemmas.Bool.Decides.{nat_tests}
use Rattle.std.proofs.lemmas.Nat.{pow_pos, mod_below}
use Rattle.std.proofs.Math.Nat.{div-le_self, mod-le, mod-eq_of_lt, mod_self}
use Rattle.lv_bits.specs.Values.{signed_of}
use Rattle.lv_source.specs.Values.{quotient, remainder, wrapped}
use Rattle.lv_const.specs.Signs.{is_negative, magnitude, with_sign, differ}
use Rattle.lv_const.proofs.Numbers.{split}

wrapped-pos : (w q : ℕ) → q < 2 ^ w → wrapped w (pos q) ≡ q
wrapped-pos w q h = mod-eq_of_lt h

wrapped-neg : (w q : ℕ) → q < 2 ^ w → wrapped w (neg_ℤ (pos q)) ≡ (2 ^ w - q) % 2 ^ w
wrapped-neg w zero h = let e : 2 ^ w - 0 ≡ 2 ^ w = omega arith in mod-eq_of_lt (pow_pos w) ∙ (sym (mod_self (2 ^ w)) ∙ ap (λ k. k % 2 ^ w) (sym e))
wrapped-neg w (suc q) h = ap (λ k. (2 ^ w - k) % 2 ^ w) (mod-eq_of_lt h)

of-high : (w a : ℕ) → a < 2 ^ w → suc (2 ^ w - suc a) ≡ 2 ^ w - a
of-high w a h = omega arith

nonzero : (b : ℕ) → 1 ≤ b → (b == 0) ≡ false
nonzero b h = grind (arith, nat_tests)

not-low : (a n : ℕ) → nat_lt a n ≡ false → n ≤ a
not-low a n h = grind (arith, nat_tests)

div-lt : (a b n : ℕ) → a < n → a / b < n
div-lt a b n h = omega (arith, div-le_self a b)

mod-lt : (a b n : ℕ) → a < n → a % b < n
mod-lt a b n h = omega (arith, mod-le a b)

high-fits : (w a : ℕ) → a < 2 ^ w → nat_lt a (2 ^ (w - 1)) ≡ false → 2 ^ w - a < 2 ^ w
high-fits w a fits h = omega (arith, not-low a (2 ^ (w - 1)) h, pow_pos (w - 1))

abbrev Same : Bool → ℕ → ℕ → ℕ → Type 0
Same s w a b = with_sign (differ (is_negative s w a) (is_negative s w b)) w (magnitude s w a / magnitude s w b) ≡ quotient s w a b

abbrev Left : Bool → ℕ → ℕ → ℕ → Type 0
Left s w a b = with_sign (is_negative s w a) w (magnitude s w a % magnitude s w b) ≡ remainder s w a b

module _ (w a b : ℕ) (whole : 1 ≤ b) (fits : a < 2 ^ w) (small : b < 2 ^ w) where
  z : (b == 0) ≡ false
  z = nonzero b whole

  low-low : nat_lt a (2 ^ (w - 1)) ≡ true → nat_lt b (2 ^ (w - 1)) ≡ true → Same true w a b
  low-low h k = rw (h, k, z) (sym (wrapped-pos w (a / b) (div-lt a b (2 ^ w) fits)))

  high-low : nat_lt a (2 ^ (w - 1)) ≡ false → nat_lt b (2 ^ (w - 1)) ≡ true → Same true w a b
  high-low h k = rw (h, k, z, of-high w a fits) (sym (wrapped-neg w ((2 ^ w - a) / b) (div-lt (2 ^ w - a) b (2 ^ w) (high-fits w a fits h))))

  low-high : nat_lt a (2 ^ (w - 1)) ≡ true → nat_lt b (2 ^ (w - 1)) ≡ false → Same true w a b
  low-high h k = rw (h, k, z, of-high w b small) (sym (wrapped-neg w (a / (2 ^ w - b)) (div-lt a (2 ^ w - b) (2 ^ w) fits)))

  high-high : nat_lt a (2 ^ (w - 1)) ≡ false → nat_lt b (2 ^ (w - 1)) ≡ false → Same true w a b
  high-high h k = rw (h, k, z, of-high w a fits, of-high w b small)
      (sym (wrapped-pos w ((2 ^ w - a) / (2 ^ w - b)) (div-lt (2 ^ w - a) (2 ^ w - b) (2 ^ w) (high-fits w a fits h))))

  rest-low-low : nat_lt a (2 ^ (w - 1)) ≡ true → nat_lt b (2 ^ (w - 1)) ≡ true → Left true w a b
  rest-low-low h k = rw (h, k, z) (sym (wrapped-pos w (a % b) (mod-lt a b (2 ^ w) fits)))

  rest-high-low : nat_lt a (2 ^ (w - 1)) ≡ false → nat_lt b (2 ^ (w - 1)) ≡ true → Left true w a b
  rest-high-low h k = rw (h, k, z, of-high w a fits) (sym (wrapped-neg w ((2 ^ w - a) % b) (mod-lt (2 ^ w - a) b (2 ^ w) (high-fits w a fits h))))

  rest-low-high : nat_lt a (2 ^ (w - 1)) ≡ true → nat_lt b (2 ^ (w - 1)) ≡ false → Left true w a b
  rest-low-high h k = rw (h, k, z, of-high w b small) (sym (wrapped-pos w (a % (2 ^ w - b)) (mod-lt a (2 ^ w - b) (2 ^ w) fits)))

  rest-high-high : nat_lt a (2 ^ (w - 1)) ≡ false → nat_lt b (2 ^ (w - 1)) ≡ false → Left true w a b
  rest-high-high h k = rw (h, k, z, of-high w a fits, of-high w b small)
      (sym (wrapped-neg w ((2 ^ w - a) % (2 ^ w - b)) (mod-lt (2 ^ w - a) (2 ^ w - b) (2 ^ w) (high-fits w a fits h))))

  plain : Same false w a b
  plain = rw z refl

  rest-plain : Left false w a b
  rest-plain = rw z refl

pub quotient_is : (s : Bool) (w a b : ℕ) → 1 ≤ b → a < 2 ^ w → b < 2 ^ w →
    with_sign (differ (is_negative s w a) (is_negative s w b)) w (magnitude s w a / magnitude s w b) ≡ quotient s w a b
quotient_is false w a b whole fits small = plain w a b whole fits small
quotient_is true w a b whole fits small = elim (split (nat_lt a (2 ^ (w - 1)))) [
  | inl h ↦ elim (split (nat_lt b (2 ^ (w - 1)))) [ inl k ↦ low-low w a b whole fits small h k | inr k ↦ low-high w a b whole fits small h k ]
  | inr h ↦ elim (split (nat_lt b (2 ^ (w - 1)))) [ inl k ↦ high-low w a b whole fits small h k | inr k ↦ high-high w a b whole fits small h k ]
]

pub remainder_is : (s : Bool) (w a b : ℕ) → 1 ≤ b → a < 2 ^ w → b < 2 ^ w →
    with_sign (is_negative s w a) w (magnitude s w a % magnitude s w b) ≡ remainder s w a b
remainder_is false w a b whole fits small = rest-plain w a b whole fits small
remainder_is true w a b whole fits small = elim (split (nat_lt a (2 ^ (w - 1)))) [
  | inl h ↦ elim (split (nat_lt b (2 ^ (w - 1)))) [ inl k ↦ rest-low-low w a b whole fits small h k | inr k ↦ rest-low-high w a b whole fits small h k ]
  | inr h ↦ elim (split (nat_lt b (2 ^ (w - 1)))) [ inl k ↦ rest-high-low w a b whole fits small h k | inr k ↦ rest-high-high w a b whole fits small h k ]
]

wrapped-lt : (w : ℕ) (z : ℤ) → wrapped w z < 2 ^ w
wrapped-lt w (pos n) = mod_below n (2 ^ w) (pow_pos w)
wrapped-lt w (negsuc n) = mod_below (2 ^ w - suc n % 2 ^ w) (2 ^ w) (pow_pos w)

pub quotient_lt : (s : Bool) (w a b : ℕ) → (b == 0) ≡ false → a < 2 ^ w → quotient s w a b < 2 ^ w
quotient_lt false w a b z h = rw z (div-lt a b (2 ^ w) h)
quotient_lt true w a b z h = rw z (wrapped-lt w (int_div (signed_of w a) (signed_of w b)))

pub remainder_lt : (s : Bool) (w a b : ℕ) → (b == 0) ≡ false → a < 2 ^ w → remainder s w a b < 2 ^ w
remainder_lt false w a b z h = rw z (mod-lt a b (2 ^ w) h)
remainder_lt true w a b z h = rw z (wrapped-lt w (int_rem (signed_of w a) (signed_of w b)))
