-- Two assignments of the variables of one copy, as one assignment of those of two.
use Rattle.std.proofs.Common.{◌≡◌, ℕ, ◌+◌, ◌-◌, ◌<◌, ◌≤◌, inl, inr, true, false, if◌then◌else◌, nat_lt, sym, ◌∙◌, ap, arith}
use Rattle.std.proofs.lemmas.Bool.{cases_lt}
use Rattle.lv_first.specs.Formulas.{Assignment, copy_of, IsZeroOutside}
use Rattle.lv_first.proofs.Truths.{funext}

pub lt_true : (j k : ℕ) → j < k → nat_lt j k ≡ true
lt_true j k h = grind (arith, h)

pub lt_false : (j k : ℕ) → k ≤ j → nat_lt j k ≡ false
lt_false j k h = grind (arith, h)

module _ (R I : ℕ) where
  pub copy-first : (by : ℕ) (env : Assignment) (k : ℕ) → k < R → copy_of R I by env k ≡ env (k + by)
  copy-first by env k h = rw (lt_true k R h)

  pub copy-second : (by : ℕ) (env : Assignment) (k : ℕ) → R ≤ k → k < R + I → copy_of R I by env k ≡ env k
  copy-second by env k h g = rw (lt_false k R h, lt_true k (R + I) g)

  pub copy-third : (by : ℕ) (env : Assignment) (k : ℕ) → R + I ≤ k → copy_of R I by env k ≡ false
  copy-third by env k h = rw (lt_false k R (omega arith), lt_false k (R + I) h)

  pub copy-settled : (by : ℕ) (env : Assignment) → IsZeroOutside 0 (R + I) (copy_of R I by env)
  copy-settled by env = record { below = λ k h. absurd (omega arith); above = λ k h. copy-third by env k h }

  pub copies-share : (a b : ℕ) (env : Assignment) (k : ℕ) → R ≤ k → copy_of R I a env k ≡ copy_of R I b env k
  copies-share a b env k h = elim (cases_lt k (R + I)) [
    | inl g ↦ copy-second a env k h g ∙ sym (copy-second b env k h g)
    | inr g ↦ copy-third a env k g ∙ sym (copy-third b env k g)
  ]

  abbrev pub joined : Assignment → Assignment → Assignment
  joined l r k = if nat_lt k (R + I) then l k else if nat_lt k (R + I + R) then r (k - (R + I)) else false

  pub joined-zero : (l r : Assignment) → IsZeroOutside 0 (R + I + R) (joined l r)
  joined-zero l r = record {
    below = λ k h. absurd (omega arith);
    above = λ k h. rw (lt_false k (R + I) (omega arith), lt_false k (R + I + R) h);
  }

  joined-first : (l r : Assignment) (k : ℕ) → k < R + I → joined l r k ≡ l k
  joined-first l r k h = rw (lt_true k (R + I) h)

  joined-second : (l r : Assignment) (k : ℕ) → k < R → joined l r (k + (R + I)) ≡ r k
  joined-second l r k h =
      let e : k + (R + I) - (R + I) ≡ k = omega arith in
      rw (lt_false (k + (R + I)) (R + I) (omega arith), lt_true (k + (R + I)) (R + I + R) (omega arith), e)

  pub left-joined : (l r : Assignment) → IsZeroOutside 0 (R + I) l → copy_of R I 0 (joined l r) ≡ l
  left-joined l r z = funext (copy_of R I 0 (joined l r)) l (λ k. elim (cases_lt k R) [
    | inl h ↦ let e : k + 0 ≡ k = omega arith in copy-first 0 (joined l r) k h ∙ ap (joined l r) e ∙ joined-first l r k (omega arith)
    | inr h ↦ elim (cases_lt k (R + I)) [
      | inl g ↦ copy-second 0 (joined l r) k h g ∙ joined-first l r k g
      | inr g ↦ copy-third 0 (joined l r) k g ∙ sym (z.above k g)
    ]
  ])

  pub right-joined :
      (l r : Assignment) → IsZeroOutside 0 (R + I) r → ((k : ℕ) → R ≤ k → l k ≡ r k) → copy_of R I (R + I) (joined l r) ≡ r
  right-joined l r z same = funext (copy_of R I (R + I) (joined l r)) r (λ k. elim (cases_lt k R) [
    | inl h ↦ copy-first (R + I) (joined l r) k h ∙ joined-second l r k h
    | inr h ↦ elim (cases_lt k (R + I)) [
      | inl g ↦ copy-second (R + I) (joined l r) k h g ∙ joined-first l r k g ∙ same k h
      | inr g ↦ copy-third (R + I) (joined l r) k g ∙ sym (z.above k g)
    ]
  ])
