-- What is found among the literals of a clause.
use Rattle.std.specs.Prelude.{◌≡◌, ℕ, false, List, IsTrue, Option, Some, None}
use Rattle.lv_clauses.specs.Literals.{Lit, negated, has}
use Rattle.lv_trail.specs.Chains.{code}

-- a literal that isn't false and isn't that of the list, if there is one
abbrev pub IsOpenBut : List Lit → List Lit → ℕ → Option Lit → Type 0
IsOpenBut t c but None = (l : Lit) → IsTrue (has c l) → (code l ≡ but → ⊥) → IsTrue (has t (negated l))
IsOpenBut t c but (Some l) = IsTrue (has c l) × (code l ≡ but → ⊥) × (has t (negated l) ≡ false)

-- a literal that isn't that of the list, if there is one
abbrev pub IsBut : List Lit → ℕ → Option Lit → Type 0
IsBut c but None = (l : Lit) → IsTrue (has c l) → code l ≡ but
IsBut c but (Some l) = IsTrue (has c l) × (code l ≡ but → ⊥)
