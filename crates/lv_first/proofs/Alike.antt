-- What it means that formulas are alike in both copies.
use Rattle.std.proofs.Common.{◌≡◌, ℕ, zero, suc, ◌+◌, ◌<◌, inl, inr, Bool, true, false, not, ◌||◌, List, [], ◌∷◌, length, map, refl, sym, ap, subst, arith}
use Rattle.std.specs.List.{All}
use Rattle.std.proofs.lemmas.Bool.{cases_lt, and_from, and_parts}
use Rattle.std.proofs.lemmas.List.Elements.{All-nil, All-cons, All-head, All-tail}
use Rattle.lv_bits.specs.Values.{bit}
use Rattle.lv_model.specs.Design.{values}
use Rattle.lv_first.specs.declared.formula.Formula.{Formula}
use Rattle.lv_first.specs.Formulas.{Assignment, Truth, same_bit, constant, variable, both, alike, implied, in_copy, copy_of, truth}
use Rattle.lv_first.specs.declared.formula.Formula.TheVariants.{Constant}
use Rattle.lv_first.proofs.Truths.{truth-Constant}
use Rattle.lv_first.specs.Problems.{numbers, register, left, right, alike_in, all_alike, chosen_alike, first_alike}

pub same_from : (a b : Bool) → a ≡ b → same_bit a b ≡ true
same_from true true e = refl
same_from true false e = absurd (cc)
same_from false true e = absurd (cc)
same_from false false e = refl

pub from_same : (a b : Bool) → same_bit a b ≡ true → a ≡ b
from_same true true e = refl
from_same true false e = absurd (cc)
from_same false true e = absurd (cc)
from_same false false e = refl

pub bits_from : (a b : Bool) → a ≡ b → bit a ≡ bit b
bits_from a b e = ap bit e

pub from_bits : (a b : Bool) → bit a ≡ bit b → a ≡ b
from_bits true true e = refl
from_bits true false e = absurd (omega arith)
from_bits false true e = absurd (omega arith)
from_bits false false e = refl

pub both-parts : (s t : Truth) (env : Assignment) → both s t env ≡ true → (s env ≡ true) × (t env ≡ true)
unfolding both
both-parts s t env h = and_parts (s env) (t env) h

pub both-from : (s t : Truth) (env : Assignment) → s env ≡ true → t env ≡ true → both s t env ≡ true
unfolding both
both-from s t env h g = and_from (s env) (t env) h g

or_elim : (a b : Bool) → (not a || b) ≡ true → a ≡ true → b ≡ true
or_elim true b h e = h
or_elim false b h e = absurd (cc)

or_intro : (a b : Bool) → (a ≡ true → b ≡ true) → (not a || b) ≡ true
or_intro true b h = h refl
or_intro false b h = refl

pub implied-apply : (s t : Truth) (env : Assignment) → implied s t env ≡ true → s env ≡ true → t env ≡ true
unfolding implied
implied-apply s t env h e = or_elim (s env) (t env) h e

pub implied-from : (s t : Truth) (env : Assignment) → (s env ≡ true → t env ≡ true) → implied s t env ≡ true
unfolding implied
implied-from s t env h = or_intro (s env) (t env) h

pub constant-true : (env : Assignment) → constant true env ≡ true
unfolding constant
constant-true env = refl

module _ (R I : ℕ) (env : Assignment) where
  abbrev pub l : Assignment
  l = copy_of R I 0 env

  abbrev pub r : Assignment
  r = copy_of R I (R + I) env

  pub alike-from : (t : Truth) → t l ≡ t r → alike_in R I t env ≡ true
  unfolding alike in_copy
  alike-from t e = same_from (t l) (t r) e

  pub from-alike : (t : Truth) → alike_in R I t env ≡ true → t l ≡ t r
  unfolding alike in_copy
  from-alike t e = from_same (t l) (t r) e

  pub left-is : (t : Truth) → left R I t env ≡ t l
  unfolding in_copy
  left-is t = refl

  pub right-is : (t : Truth) → right R I t env ≡ t r
  unfolding in_copy
  right-is t = refl

  pub all-from : (fs : List Formula) → values (numbers fs) l ≡ values (numbers fs) r → all_alike R I fs env ≡ true
  all-from [] e = constant-true env
  all-from (f ∷ fs) e =
      let first : bit (truth f l) ≡ bit (truth f r) = cc in
      let rest : values (numbers fs) l ≡ values (numbers fs) r = cc in
      both-from (alike_in R I (truth f)) (all_alike R I fs) env (alike-from (truth f) (from_bits (truth f l) (truth f r) first)) (all-from fs rest)

  pub from-all : (fs : List Formula) → all_alike R I fs env ≡ true → values (numbers fs) l ≡ values (numbers fs) r
  from-all [] h = refl
  from-all (f ∷ fs) h =
      let parts = both-parts (alike_in R I (truth f)) (all_alike R I fs) env h in
      let first : bit (truth f l) ≡ bit (truth f r) = ap bit (from-alike (truth f) parts.0) in
      let rest : values (numbers fs) l ≡ values (numbers fs) r = from-all fs parts.1 in
      cc

  variable-from : (k : ℕ) → l k ≡ r k → alike_in R I (variable k) env ≡ true
  unfolding variable
  variable-from k e = alike-from (variable k) e

  from-variable : (k : ℕ) → alike_in R I (variable k) env ≡ true → l k ≡ r k
  unfolding variable
  from-variable k e = from-alike (variable k) e

  pub chosen-from : (ks : List ℕ) → All (λ e. e l ≡ e r) (map register ks) → chosen_alike R I ks env ≡ true
  chosen-from [] all = constant-true env
  chosen-from (k ∷ ks) all =
      both-from (alike_in R I (variable k)) (chosen_alike R I ks) env
      (variable-from k (from_bits (l k) (r k) (All-head (λ e. e l ≡ e r) (register k) (map register ks) all)))
      (chosen-from ks (All-tail (λ e. e l ≡ e r) (register k) (map register ks) all))

  pub from-chosen : (ks : List ℕ) → chosen_alike R I ks env ≡ true → All (λ e. e l ≡ e r) (map register ks)
  from-chosen [] h = All-nil (λ e. e l ≡ e r)
  from-chosen (k ∷ ks) h =
      let parts = both-parts (alike_in R I (variable k)) (chosen_alike R I ks) env h in
      All-cons (λ e. e l ≡ e r) (register k) (map register ks) (ap bit (from-variable k parts.0)) (from-chosen ks parts.1)

  pub first-from : (n : ℕ) → ((k : ℕ) → k < n → l k ≡ r k) → first_alike R I n env ≡ true
  first-from zero same = constant-true env
  first-from (suc n) same =
      both-from (alike_in R I (variable n)) (first_alike R I n) env
      (variable-from n (same n (omega arith))) (first-from n (λ k h. same k (omega arith)))

  pub from-first : (n : ℕ) → first_alike R I n env ≡ true → (k : ℕ) → k < n → l k ≡ r k
  from-first zero h k below = absurd (omega arith)
  from-first (suc n) h k below =
      let parts = both-parts (alike_in R I (variable n)) (first_alike R I n) env h in
      elim (cases_lt k n) [
        | inl less ↦ from-first n parts.1 k less
        | inr more ↦ let e : k ≡ n = omega arith in subst (λ j. l j ≡ r j) (sym e) (from-variable n parts.0)
      ]

pub nil_every : (R I : ℕ) (fs : List Formula) → length fs < 1 → truth (Constant true) ≡ all_alike R I fs
nil_every R I [] h = truth-Constant true
nil_every R I (f ∷ fs) h = absurd (omega arith)

pub nil_those : (R I : ℕ) (ks : List ℕ) → length ks < 1 → truth (Constant true) ≡ chosen_alike R I ks
nil_those R I [] h = truth-Constant true
nil_those R I (k ∷ ks) h = absurd (omega arith)
