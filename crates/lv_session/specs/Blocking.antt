-- Assumed literals that can't all be true.
use Rattle.std.specs.Prelude.{◌≡◌, ℕ, ◌-◌, ◌≤◌, Bool, List, [], take, length, slice_get, IsTrue, Option, Some, None}
use Rattle.lv_clauses.specs.Literals.{Lit, has}
use Rattle.lv_clauses.specs.Sets.{SetValue}
use Rattle.lv_clauses.specs.Values.{literal_value, Satisfies}
use Rattle.lv_clauses.specs.Derivations.{Step, IsPart}
use Rattle.lv_session.specs.Session.{AreApart}
use Rattle.lv_session.specs.Keeping.{is_used}
use Rattle.lv_session.specs.declared.block.Core.{Core}

-- no values that satisfy the set make all of these literals true
abbrev pub AreRefuted : SetValue → List Lit → Type 0
AreRefuted set lits = (values : ℕ → Bool) → Satisfies values set.clauses → ((l : Lit) → IsTrue (has lits l) → IsTrue (literal_value values l)) → ⊥

-- the literals whose units a row has
pub record IsChosen (lits : List Lit) (row : List Bool) (new : List Lit) : Type 0 where
  pub part : IsPart new lits
  pub apart : AreApart new
  pub used : (i : ℕ) (a : Lit) → slice_get lits i ≡ Some a → IsTrue (is_used row i) → IsTrue (has new a)

-- some of these literals, which can't all be true
pub record IsCore (lits : List Lit) (set : SetValue) (new : List Lit) : Type 0 where
  pub part : IsPart new lits
  pub apart : AreApart new
  pub refuted : AreRefuted set new

abbrev pub IsLess : List Lit → SetValue → Option Core → Type 0
IsLess lits set None = Unit {0}
IsLess lits set (Some core) = IsCore lits set core.lits.items

-- the last line is empty
abbrev pub EndsEmpty : List Step → Type 0
EndsEmpty log = (s : Step) × (1 ≤ length log) × (slice_get log (length log - 1) ≡ Some s) × (s.clause ≡ [])

-- the clauses that were there stand before the others
pub record IsBehind (old new : SetValue) : Type 0 where
  pub vars : new.vars ≡ old.vars
  pub before : take (length old.clauses) new.clauses ≡ old.clauses
