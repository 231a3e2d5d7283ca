-- Lines of a derivation from a set with unit clauses, and which of these units they rest on.
use Rattle.std.specs.Prelude.{◌≡◌, ℕ, ◌+◌, ◌-◌, ◌<◌, ◌≤◌, Bool, false, List, get_or, length, slice_get, IsTrue, Some, ◌⊎◌}
use Rattle.lv_clauses.specs.Literals.{Lit, negated, has}
use Rattle.lv_clauses.specs.Sets.{SetValue}
use Rattle.lv_clauses.specs.Values.{literal_value, is_satisfied, Satisfies}
use Rattle.lv_clauses.specs.Derivations.{Step, IsPart}

-- a row has a place for each unit
abbrev pub is_used : List Bool → ℕ → Bool
is_used row i = get_or row i false

-- the units of a row are true
abbrev pub AreHeld : (ℕ → Bool) → List Lit → List Bool → Type 0
AreHeld values lits row = (i : ℕ) (a : Lit) → slice_get lits i ≡ Some a → IsTrue (is_used row i) → IsTrue (literal_value values a)

-- what satisfies the set and makes the units of the row true satisfies the clause
abbrev pub RestsOn : SetValue → List Lit → List Lit → List Bool → Type 0
RestsOn set lits c row = (values : ℕ → Bool) → Satisfies values set.clauses → AreHeld values lits row → IsTrue (is_satisfied values c)

-- each line rests on the units of its row
abbrev pub AreResting : SetValue → List Lit → List Step → List (List Bool) → Type 0
AreResting set lits log rows = (q : ℕ) (r : List Bool) (s : Step) → slice_get rows q ≡ Some r → slice_get log q ≡ Some s → RestsOn set lits s.clause r

-- each row is so long
abbrev pub AreRows : ℕ → List (List Bool) → Type 0
AreRows m rows = (q : ℕ) (r : List Bool) → slice_get rows q ≡ Some r → length r ≡ m

-- the row has all that this one has
abbrev pub IsMore : List Bool → List Bool → Type 0
IsMore old new = (i : ℕ) → IsTrue (is_used old i) → IsTrue (is_used new i)

-- what a hint uses: a unit, or what a line before uses, where n clauses and m units stand before the lines
pub record IsUse (n m : ℕ) (rows : List (List Bool)) (h : ℕ) (row : List Bool) : Type 0 where
  pub unit : n < h → h ≤ n + m → IsTrue (is_used row (h - n - 1))
  pub line : (q : ℕ) (r : List Bool) → h ≡ n + m + q + 1 → slice_get rows q ≡ Some r → IsMore r row

abbrev pub AreUses : ℕ → ℕ → List (List Bool) → List ℕ → List Bool → Type 0
AreUses n m rows hints row = (p h : ℕ) → slice_get hints p ≡ Some h → IsUse n m rows h row

-- the literals of a clause, and the negations of the units of its row
pub record IsLifted (lits : List Lit) (c : List Lit) (row : List Bool) (new : List Lit) : Type 0 where
  pub own : (l : Lit) → IsTrue (has c l) → IsTrue (has new l)
  pub used : (i : ℕ) (a : Lit) → slice_get lits i ≡ Some a → IsTrue (is_used row i) → IsTrue (has new (negated a))
  pub only : (l : Lit) → IsTrue (has new l) → IsTrue (has c l) ⊎ ((i : ℕ) × (a : Lit) × (slice_get lits i ≡ Some a) × (negated a ≡ l))

-- some clause of the set is part of these literals
abbrev pub HasPart : SetValue → List Lit → Type 0
HasPart set lits = (k : ℕ) × (c : List Lit) × (slice_get set.clauses k ≡ Some c) × IsPart c lits

-- a row for each line, so long as the units are many, and each line rests on the units of its row
pub record HasRows (set : SetValue) (lits : List Lit) (log : List Step) (rows : List (List Bool)) : Type 0 where
  pub count : length rows ≡ length log
  pub long : AreRows (length lits) rows
  pub resting : AreResting set lits log rows
