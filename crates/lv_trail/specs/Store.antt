-- How a trail is kept: slots for the literals, and the place of each variable.
use Rattle.std.specs.Prelude.{◌≡◌, ℕ, suc, zero, ◌+◌, ◌-◌, ◌<◌, ◌≤◌, false, cond, eqb, List, ◌++◌, take, length, get_or, Some}
use Rattle.std.specs.List.{sum_by}
use Rattle.lv_clauses.specs.Literals.{Lit, negated, has}
use Rattle.lv_clauses.specs.Sets.{AreClauses, numbered}
use Rattle.lv_trail.specs.declared.store.Entry.{Entry}
use Rattle.lv_trail.specs.Trail.{no_entry, truths, IsReason, AllForced, IsFalsified, IsClosed}
use Rattle.lv_trail.specs.declared.store.Store.{Store}
use Rattle.lv_trail.specs.declared.store.Reached.{Reached}
use Rattle.lv_trail.specs.declared.store.Reached.TheVariants.{Closed, Conflict}

abbrev pub entries : Store → List Entry
entries t = take t.len t.slots.items

abbrev pub free_of : ℕ → ℕ
free_of p = cond (eqb p 0) 1 0

-- a literal's place leads to it
pub record IsPlaced (t : Store) (k : ℕ) : Type 0 where
  pub low : 1 ≤ (get_or t.slots.items k no_entry).lit.var
  pub high : (get_or t.slots.items k no_entry).lit.var ≤ t.vars
  pub place : get_or t.places.items ((get_or t.slots.items k no_entry).lit.var - 1) 0 ≡ k + 1

pub record IsSound (t : Store) : Type 0 where
  pub slots : length t.slots.items ≡ t.vars
  pub places : length t.places.items ≡ t.vars
  pub free : sum_by free_of t.places.items + t.len ≡ t.vars
  pub clauses : AreClauses t.vars t.clauses
  pub placed : (k : ℕ) → k < t.len → IsPlaced t k
  pub found : (v : ℕ) → v < t.vars → 1 ≤ get_or t.places.items v 0 →
      (get_or t.places.items v 0 ≤ t.len) × ((get_or t.slots.items (get_or t.places.items v 0 - 1) no_entry).lit.var ≡ v + 1)
  pub reasons : (k : ℕ) → k < t.len → 1 ≤ (get_or t.slots.items k no_entry).reason →
      IsReason t.clauses (truths (take k t.slots.items)) (get_or t.slots.items k no_entry).lit (get_or t.slots.items k no_entry).reason
  pub decided : (k : ℕ) → k < t.len → (get_or t.slots.items k no_entry).reason ≡ 0 → 1 ≤ (get_or t.slots.items k no_entry).level
  pub rising : (j k : ℕ) → j ≤ k → k < t.len → (get_or t.slots.items j no_entry).level ≤ (get_or t.slots.items k no_entry).level
  pub below : (k : ℕ) → k < t.len → (get_or t.slots.items k no_entry).level ≤ t.level
  pub ranks : (k : ℕ) → k < t.len → (get_or t.slots.items k no_entry).level ≤ k + 1
  pub room : t.level ≤ t.len
  pub gaps : (k : ℕ) → k + 1 < t.len → (get_or t.slots.items (k + 1) no_entry).level ≤ (get_or t.slots.items k no_entry).level + 1
  pub top : (k : ℕ) → k + 1 ≡ t.len → (get_or t.slots.items k no_entry).level ≡ t.level

-- the variable is one of the trail's, and has no value
pub record IsFree (t : Store) (l : Lit) : Type 0 where
  pub low : 1 ≤ l.var
  pub high : l.var ≤ t.vars
  pub unset : has (truths (entries t)) l ≡ false
  pub unset_negated : has (truths (entries t)) (negated l) ≡ false

-- a decision begins a level, and another literal has a reason
abbrev pub step_by : Store → Entry → ℕ → Type 0
step_by t e zero = e.level ≡ t.level + 1
step_by t e (suc r) = (e.level ≡ t.level) × IsReason t.clauses (truths (entries t)) e.lit (suc r)

abbrev pub IsStep : Store → Entry → Type 0
IsStep t e = step_by t e e.reason

-- the clauses stay
abbrev pub IsSame : Store → Store → Type 0
IsSame old new = (new.vars ≡ old.vars) × (new.clauses ≡ old.clauses)

-- what was added was forced, at the level that was
abbrev pub AreForced : Store → Store → Type 0
AreForced old new = (es : List Entry) × (entries new ≡ entries old ++ es) × (new.level ≡ old.level) × AllForced old.level es

abbrev pub IsReached : Store → Reached → Type 0
IsReached t Closed = IsClosed t.clauses (truths (entries t))
IsReached t (Conflict r) = (c : List Lit) × (numbered t.clauses r ≡ Some c) × IsFalsified (truths (entries t)) c

-- the levels up to this one are kept
pub record IsCut (old new : Store) (most : ℕ) : Type 0 where
  pub sound : IsSound new
  pub same : IsSame old new
  pub len : new.len ≤ old.len
  pub prefix : entries new ≡ take new.len (entries old)
  pub level : new.level ≡ most
  pub kept : (k : ℕ) → k < new.len → (get_or old.slots.items k no_entry).level ≤ most
  pub gone : (k : ℕ) → new.len ≤ k → k < old.len → most < (get_or old.slots.items k no_entry).level

-- one trail after unit steps from another
pub record IsGrown (old new : Store) : Type 0 where
  pub sound : IsSound new
  pub same : IsSame old new
  pub forced : AreForced old new
  pub more : old.len ≤ new.len

-- one trail after its last literal is gone
pub record IsPopped (t u : Store) : Type 0 where
  pub vars : u.vars ≡ t.vars
  pub clauses : u.clauses ≡ t.clauses
  pub slots : u.slots.items ≡ t.slots.items
  pub len : u.len + 1 ≡ t.len
  pub fall : t.level ≤ u.level + 1
  pub sound : IsSound u
