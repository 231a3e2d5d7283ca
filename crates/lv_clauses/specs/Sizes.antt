-- How long a set and its clauses are.
use Rattle.std.specs.Prelude.{ℕ, ◌^◌, ◌<◌, List, [], ◌∷◌, length}
use Rattle.lv_clauses.specs.Literals.{Lit}
use Rattle.lv_clauses.specs.Sets.{SetValue}

-- no clause is empty
abbrev pub HasNoEmpty : List (List Lit) → Type 0
HasNoEmpty [] = Unit {0}
HasNoEmpty (c ∷ cs) = (0 < length c) × HasNoEmpty cs

-- the variables and the clauses have numbers of 63 bits
pub record IsFew (set : SetValue) : Type 0 where
  pub vars : set.vars < 2 ^ 63
  pub clauses : length set.clauses < 2 ^ 63
