-- Variables are numbered from 1, so the value of 0 is of no account.
use Rattle.std.proofs.Common.{◌≡◌, ℕ, zero, suc, ◌<◌, ◌≤◌, ◌&&◌, ◌||◌, Bool, false, not, if◌then◌else◌, List, [], ◌∷◌, refl, sym, ◌∙◌, ap, subst, arith}
use Rattle.std.specs.List.{list_any, list_all}
use Rattle.std.specs.Prelude.{IsTrue}
use Rattle.lv_clauses.specs.Literals.{Lit, Rises}
use Rattle.lv_clauses.specs.Sets.{AreClauses}
use Rattle.lv_clauses.specs.Values.{literal_value, is_satisfied, Satisfies}

-- the same values, and false for 0
abbrev pub from_one : (ℕ → Bool) → ℕ → Bool
from_one v zero = false
from_one v (suc k) = v (suc k)

pub same_above : (v : ℕ → Bool) (k : ℕ) → 1 ≤ k → from_one v k ≡ v k
same_above v zero h = absurd (omega arith)
same_above v (suc k) h = refl

module _ (v w : ℕ → Bool) (same : (k : ℕ) → 1 ≤ k → w k ≡ v k) where
  same_literal : (l : Lit) → 1 ≤ l.var → literal_value w l ≡ literal_value v l
  same_literal l h = ap (λ (b : Bool). if l.neg then not b else b) (same l.var h)

  same_clause : (n : ℕ) (c : List Lit) → Rises n c → is_satisfied w c ≡ is_satisfied v c
  same_clause n [] h = refl
  same_clause n (l ∷ c) h =
      ap (λ (b : Bool). b || list_any (literal_value w) c) (same_literal l (omega (arith, h.0))) ∙ ap (λ (b : Bool). literal_value v l || b) (same_clause l.var c h.1)

  same_set : (vars : ℕ) (cs : List (List Lit)) → AreClauses vars cs → list_all (is_satisfied w) cs ≡ list_all (is_satisfied v) cs
  same_set vars [] h = refl
  same_set vars (c ∷ cs) h =
      ap (λ (b : Bool). b && list_all (is_satisfied w) cs) (same_clause 0 c (h zero c refl).0) ∙ ap (λ (b : Bool). is_satisfied v c && b) (same_set vars cs (λ k. h (suc k)))

  pub satisfies_same : (vars : ℕ) (cs : List (List Lit)) → AreClauses vars cs → Satisfies v cs → Satisfies w cs
  satisfies_same vars cs h s = subst IsTrue (sym (same_set vars cs h)) s
