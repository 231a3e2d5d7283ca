-- A formula is valid exactly where it is with its first variable false and with it true.
use Rattle.std.proofs.Common.{◌≡◌, ℕ, ◌+◌, ◌<◌, inl, inr, Bool, true, false, refl, sym, ◌∙◌, ap, subst, arith}
use Rattle.std.specs.Prelude.{IsTrue, ◌↔◌}
use Rattle.std.proofs.lemmas.Bool.{cases_eq, cases_lt}
use Rattle.lv_first.specs.Formulas.{Assignment, Truth, constant, with_value, fixing, at_zero, IsZeroOutside, IsValid}
use Rattle.lv_first.proofs.Truths.{funext}

abbrev nothing : Assignment
nothing k = false

all_zero : (k : ℕ) (env : Assignment) → IsZeroOutside k k env → (j : ℕ) → env j ≡ false
all_zero k env z j = elim (cases_lt j k) [ inl h ↦ z.below j h | inr h ↦ z.above j h ]

pub valid_at_end : (k : ℕ) (t : Truth) → IsTrue (at_zero t) ↔ IsValid k k t
unfolding at_zero
valid_at_end k t = (
  λ is. record { holds = λ env z. ap t (funext env nothing (all_zero k env z)) ∙ is },
  λ valid. valid.holds nothing (record { below = λ j h. refl; above = λ j h. refl }),
)

pub valid_constant : (start end : ℕ) (b : Bool) → IsTrue b ↔ IsValid start end (constant b)
unfolding constant
valid_constant start end b = (
  λ is. record { holds = λ env z. is },
  λ valid. valid.holds nothing (record { below = λ j h. refl; above = λ j h. refl }),
)

-- an assignment with its first variable fixed
with_first : (start end : ℕ) (b : Bool) (env : Assignment) → start < end → IsZeroOutside (start + 1) end env → IsZeroOutside start end (with_value env start b)
with_first start end b env h z = record {
  below = λ j below. let e : env j ≡ false = z.below j (omega arith) in grind (arith, e, below);
  above = λ j above. let e : env j ≡ false = z.above j above in grind (arith, e, above, h);
}

without_first : (start end : ℕ) (env : Assignment) → IsZeroOutside start end env → IsZeroOutside (start + 1) end (with_value env start false)
without_first start end env z = record {
  below = λ j below. elim (cases_eq j start) [ inl e ↦ grind (arith, e) | inr n ↦ let e : env j ≡ false = z.below j (omega (arith, n)) in grind (arith, e, n) ];
  above = λ j above. elim (cases_eq j start) [ inl e ↦ grind (arith, e) | inr n ↦ let e : env j ≡ false = z.above j above in grind (arith, e, n) ];
}

restored : (start : ℕ) (env : Assignment) (b : Bool) → env start ≡ b → with_value (with_value env start false) start b ≡ env
restored start env b e = funext (with_value (with_value env start false) start b) env
    (λ j. elim (cases_eq j start) [ inl f ↦ let g : env j ≡ b = ap env f ∙ e in grind (arith, f, g) | inr n ↦ grind (arith, n) ])

pub valid_low : (start end : ℕ) (t : Truth) → start < end → IsValid start end t → IsValid (start + 1) end (fixing start false t)
unfolding fixing
valid_low start end t h valid = record { holds = λ env z. valid.holds (with_value env start false) (with_first start end false env h z) }

pub valid_high : (start end : ℕ) (t : Truth) → start < end → IsValid start end t → IsValid (start + 1) end (fixing start true t)
unfolding fixing
valid_high start end t h valid = record { holds = λ env z. valid.holds (with_value env start true) (with_first start end true env h z) }

holds_for : (start end : ℕ) (t : Truth) (b : Bool) → IsValid (start + 1) end (fixing start b t) → (env : Assignment) → IsZeroOutside start end env → env start ≡ b → t env ≡ true
unfolding fixing
holds_for start end t b valid env z e =
    subst (λ v. t v ≡ true) (restored start env b e) (valid.holds (with_value env start false) (without_first start end env z))

pub valid_split : (start end : ℕ) (t : Truth) → IsValid (start + 1) end (fixing start false t) → IsValid (start + 1) end (fixing start true t) → IsValid start end t
valid_split start end t low high = record {
  holds = λ env z. (elim (env start) as (λ b. env start ≡ b → t env ≡ true) [
    | true ↦ λ e. holds_for start end t true high env z e
    | false ↦ λ e. holds_for start end t false low env z e
  ]) refl;
}

pub decided_at_end : (start end : ℕ) (t : Truth) (b : Bool) → b ≡ at_zero t → start ≡ end → IsTrue b ↔ IsValid start end t
decided_at_end start end t b is e =
    subst (λ k. IsTrue b ↔ IsValid start k t) e (subst (λ x. IsTrue x ↔ IsValid start start t) (sym is) (valid_at_end start t))

pub decided_constant : (start end : ℕ) (t : Truth) (b : Bool) → t ≡ constant b → IsTrue b ↔ IsValid start end t
decided_constant start end t b e = subst (λ s. IsTrue b ↔ IsValid start end s) (sym e) (valid_constant start end b)

pub refuted_low : (start end : ℕ) (t low : Truth) (b : Bool) → start < end → low ≡ fixing start false t → (IsTrue b ↔ IsValid (start + 1) end low) → b ≡ false → IsTrue false ↔ IsValid start end t
refuted_low start end t low b h e decided fails = (
  λ is. absurd (cc),
  λ valid. sym fails ∙ decided.1 (subst (IsValid (start + 1) end) (sym e) (valid_low start end t h valid)),
)

pub decided_high :
    (start end : ℕ) (t low high : Truth) (b c : Bool) → start < end → low ≡ fixing start false t → high ≡ fixing start true t →
    (IsTrue b ↔ IsValid (start + 1) end low) → (IsTrue c ↔ IsValid (start + 1) end high) → b ≡ true → IsTrue c ↔ IsValid start end t
decided_high start end t low high b c h e f decided_b decided_c first = (
  λ is. valid_split start end t (subst (IsValid (start + 1) end) e (decided_b.0 first)) (subst (IsValid (start + 1) end) f (decided_c.0 is)),
  λ valid. decided_c.1 (subst (IsValid (start + 1) end) (sym f) (valid_high start end t h valid)),
)
