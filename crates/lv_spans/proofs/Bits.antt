-- Masks joined, and the bits of them.
use Rattle.std.proofs.Common.{◌≡◌, ℕ, inl, inr, zero, suc, ◌+◌, ◌<◌, ◌≤◌, ◌/◌, ◌%◌, min, max, Bool, true, false, ◌&&◌, ◌||◌, ◌==◌, bit_and, bit_or, refl, ap, arith, sym, ◌∙◌}
use Rattle.std.proofs.lemmas.Bool.{cases_eq}
use Rattle.std.specs.Int.{bit_at}
use Rattle.std.proofs.lemmas.Nat.Bits.{bit_at_and, bit_at_or, bit_at-lt, bit_at_lowest, bit_at-suc, bit_at-zero}
use Rattle.lv_spans.specs.Sets.{is_set}

or-bits : (x y : ℕ) → x < 2 → y < 2 → (max x y == 1) ≡ ((x == 1) || (y == 1))
or-bits zero zero p q = refl
or-bits zero (suc zero) p q = refl
or-bits (suc zero) zero p q = refl
or-bits (suc zero) (suc zero) p q = refl
or-bits (suc (suc x)) y p q = absurd (omega arith)
or-bits x (suc (suc y)) p q = absurd (omega arith)

and-bits : (x y : ℕ) → x < 2 → y < 2 → (min x y == 1) ≡ ((x == 1) && (y == 1))
and-bits zero zero p q = refl
and-bits zero (suc zero) p q = refl
and-bits (suc zero) zero p q = refl
and-bits (suc zero) (suc zero) p q = refl
and-bits (suc (suc x)) y p q = absurd (omega arith)
and-bits x (suc (suc y)) p q = absurd (omega arith)

pub is_set-or : (a b i : ℕ) → is_set (bit_or a b) i ≡ (is_set a i || is_set b i)
is_set-or a b i = rw (bit_at_or a b i) (or-bits (bit_at a i) (bit_at b i) (bit_at-lt a i) (bit_at-lt b i))

pub is_set-and : (a b i : ℕ) → is_set (bit_and a b) i ≡ (is_set a i && is_set b i)
is_set-and a b i = rw (bit_at_and a b i) (and-bits (bit_at a i) (bit_at b i) (bit_at-lt a i) (bit_at-lt b i))

pub is_set-zero : (i : ℕ) → is_set 0 i ≡ false
is_set-zero i = ap (λ x. x == 1) (bit_at-zero i)

-- a mask that is not 0 has a bit
pub some-bit : (k n : ℕ) → n ≤ k → 0 < n → (i : ℕ) × (is_set n i ≡ true)
some-bit zero n h p = absurd (omega arith)
some-bit (suc k) n h p = elim (cases_eq (n % 2) 1) [
  | inl e ↦ (0, ap (λ x. x == 1) (bit_at_lowest n ∙ e))
  | inr ne ↦ let r : (i : ℕ) × (is_set (n / 2) i ≡ true) = some-bit k (n / 2) (omega arith) (omega arith) in
      (suc r.0, ap (λ x. x == 1) (bit_at-suc n r.0) ∙ r.1)
]
