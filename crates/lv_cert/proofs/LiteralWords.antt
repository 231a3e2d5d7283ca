-- Letters of literals.
use Rattle.std.proofs.Common.{◌≡◌, ℕ, ◌+◌, ◌^◌, ◌≤◌, ◌<◌, Bool, true, false, List, ◌∷◌, drop, length, get_or, decimal, None, sym, ap, ◌∙◌, arith, drop-cons}
use Rattle.std.proofs.lemmas.Fmt.{decimal_is_IsNumeral_wide}
use Rattle.lv_clauses.specs.Literals.{Lit}
use Rattle.lv_cert.specs.Lines.{literal}
use Rattle.lv_cert.specs.Parts.{IsReadOr}
use Rattle.lv_cert.proofs.Facts.{no_minus}

pub minus_first : (letters : List ℕ) → 0 < length letters → get_or letters 0 0 ≡ 45 → letters ≡ 45 ∷ drop 1 letters
minus_first letters h e = drop-cons letters 0 0 h ∙ ap (λ x. x ∷ drop 1 letters) e

module _ (letters : List ℕ) (low vars : ℕ) where
  pub negative_none : 0 < length letters → get_or letters 0 0 ≡ 45 → IsReadOr (λ n. (low + 1 ≤ n) × (n ≤ vars)) decimal (drop 1 letters) None →
      (a : Lit) → (low < a.var) × (a.var ≤ vars) → literal a ≡ letters → ⊥
  negative_none h m none a f = by a.var a.neg f.0 f.1
    where
      by : (v : ℕ) (n : Bool) → low < v → v ≤ vars → (let x : Lit = record { var = v; neg = n } in literal x) ≡ letters → ⊥
      by v true p q e = none v (omega arith, q) (ap (λ l. drop 1 l) e)
      by v false p q e = no_minus v (drop 1 letters) (e ∙ minus_first letters h m)

  pub positive_none : (get_or letters 0 0 ≡ 45 → ⊥) → IsReadOr (λ n. (low + 1 ≤ n) × (n ≤ vars)) decimal letters None →
      (a : Lit) → (low < a.var) × (a.var ≤ vars) → literal a ≡ letters → ⊥
  positive_none m none a f = by a.var a.neg f.0 f.1
    where
      by : (v : ℕ) (n : Bool) → low < v → v ≤ vars → (let x : Lit = record { var = v; neg = n } in literal x) ≡ letters → ⊥
      by v true p q e = m (ap (λ l. get_or l 0 0) (sym e))
      by v false p q e = none v (omega arith, q) e

  pub literal_none : vars < 2 ^ 128 → length letters ≡ 0 → (a : Lit) → (low < a.var) × (a.var ≤ vars) → literal a ≡ letters → ⊥
  literal_none s z a f = by a.var a.neg f.1
    where
      by : (v : ℕ) (n : Bool) → v ≤ vars → (let x : Lit = record { var = v; neg = n } in literal x) ≡ letters → ⊥
      by v true q e = omega (arith, z, ap length e)
      by v false q e = let k : 0 < length (decimal v) = (decimal_is_IsNumeral_wide v (omega arith)).0.0 in omega (arith, z, k, ap length e)
