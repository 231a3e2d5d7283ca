-- A trail: clauses, and the literals that are true in the order in which they became so.
use Rattle.std.specs.Prelude.{◌≡◌, ℕ, ◌+◌, ◌<◌, ◌≤◌, Bool, true, false, List, [], ◌∷◌, ◌++◌, map, take, length, get_or, slice_get, IsTrue, Option, Some, None}
use Rattle.lv_clauses.specs.Literals.{Lit, negated, has}
use Rattle.lv_clauses.specs.Sets.{AreClauses, numbered}
use Rattle.lv_trail.specs.declared.store.Entry.{Entry}
use Rattle.lv_trail.specs.declared.store.Reached.{Reached}
use Rattle.lv_trail.specs.declared.store.Reached.TheVariants.{Closed, Conflict}

-- a trail, each of whose entries is a literal with its level and its reason, which is 0 for a decision
pub record TrailValue : Type 0 where
  pub vars : ℕ
  pub clauses : List (List Lit)
  pub entries : List Entry
  pub level : ℕ

-- what is read past the end
abbrev pub no_entry : Entry
no_entry = record { lit = record { var = 1; neg = false }; level = 0; reason = 0 }

abbrev pub entry : TrailValue → ℕ → Entry
entry t k = get_or t.entries k no_entry

abbrev pub truths : List Entry → List Lit
truths es = map (λ e. e.lit) es

abbrev pub value_by : Bool → Bool → Option Bool
value_by true n = Some true
value_by false true = Some false
value_by false false = None

-- the value of a variable where these literals are true
abbrev pub value_in : List Lit → ℕ → Option Bool
value_in t v = value_by (has t (record { var = v; neg = false })) (has t (record { var = v; neg = true }))

-- all literals are false
abbrev pub IsFalsified : List Lit → List Lit → Type 0
IsFalsified t c = (l : Lit) → IsTrue (has c l) → IsTrue (has t (negated l))

-- l has no value, and all other literals are false
pub record IsUnit (t c : List Lit) (l : Lit) : Type 0 where
  pub inside : IsTrue (has c l)
  pub unset : has t l ≡ false
  pub free : has t (negated l) ≡ false
  pub others : (m : Lit) → IsTrue (has c m) → (m ≡ l → ⊥) → IsTrue (has t (negated m))

-- no clause is unit or falsified
abbrev pub IsClosed : List (List Lit) → List Lit → Type 0
IsClosed cs t = (k : ℕ) (c : List Lit) → slice_get cs k ≡ Some c → (IsFalsified t c → ⊥) × ((l : Lit) → IsUnit t c l → ⊥)

-- the clause made the literal true, its others being false before
abbrev pub IsReason : List (List Lit) → List Lit → Lit → ℕ → Type 0
IsReason cs t l r = (c : List Lit) × (numbered cs r ≡ Some c) × IsUnit t c l

-- the entry of a variable has this level
abbrev pub IsLevelOf : List Entry → ℕ → ℕ → Type 0
IsLevelOf es v n = (k : ℕ) → k < length es → (get_or es k no_entry).lit.var ≡ v → (get_or es k no_entry).level ≡ n

-- the clause that gave the variable its value, none where it has no value or was decided
abbrev pub IsReasonOf : List Entry → ℕ → Option ℕ → Type 0
IsReasonOf es v None = (k : ℕ) → k < length es → (get_or es k no_entry).lit.var ≡ v → (get_or es k no_entry).reason ≡ 0
IsReasonOf es v (Some r) = (k : ℕ) × (k < length es) × ((get_or es k no_entry).lit.var ≡ v) × ((get_or es k no_entry).reason ≡ r) × (1 ≤ r)

-- the place of the variable's entry, none where it has no value
abbrev pub IsPlaceOf : List Entry → ℕ → Option ℕ → Type 0
IsPlaceOf es v None = (k : ℕ) → k < length es → (get_or es k no_entry).lit.var ≡ v → ⊥
IsPlaceOf es v (Some p) = (p < length es) × ((get_or es p no_entry).lit.var ≡ v)

-- each has a reason, and is of this level
abbrev pub AllForced : ℕ → List Entry → Type 0
AllForced n [] = Unit {0}
AllForced n (e ∷ es) = (1 ≤ e.reason) × (e.level ≡ n) × AllForced n es

-- what holds of each trail
pub record IsTrail (t : TrailValue) : Type 0 where
  pub clauses : AreClauses t.vars t.clauses
  pub within : (k : ℕ) → k < length t.entries → (1 ≤ (entry t k).lit.var) × ((entry t k).lit.var ≤ t.vars)
  pub once : (j k : ℕ) → j < length t.entries → k < length t.entries → (entry t j).lit.var ≡ (entry t k).lit.var → j ≡ k
  pub reasons : (k : ℕ) → k < length t.entries → 1 ≤ (entry t k).reason → IsReason t.clauses (truths (take k t.entries)) (entry t k).lit (entry t k).reason
  pub decided : (k : ℕ) → k < length t.entries → (entry t k).reason ≡ 0 → 1 ≤ (entry t k).level
  pub rising : (j k : ℕ) → j ≤ k → k < length t.entries → (entry t j).level ≤ (entry t k).level
  pub below : (k : ℕ) → k < length t.entries → (entry t k).level ≤ t.level
  pub top : (k : ℕ) → k + 1 ≡ length t.entries → (entry t k).level ≡ t.level
  pub none : t.entries ≡ [] → t.level ≡ 0
  pub fits : length t.entries ≤ t.vars

-- the variable is one of the trail's, and has no value
pub record IsFree (t : TrailValue) (l : Lit) : Type 0 where
  pub low : 1 ≤ l.var
  pub high : l.var ≤ t.vars
  pub unset : has (truths t.entries) l ≡ false
  pub unset_negated : has (truths t.entries) (negated l) ≡ false

-- the variables and the clauses stay
pub record IsSame (old new : TrailValue) : Type 0 where
  pub vars : new.vars ≡ old.vars
  pub clauses : new.clauses ≡ old.clauses

-- only literals were added that clauses made true, at the level that was
pub record IsGrown (old new : TrailValue) : Type 0 where
  pub same : IsSame old new
  pub level : new.level ≡ old.level
  pub forced : (es : List Entry) × (new.entries ≡ old.entries ++ es) × AllForced old.level es

-- no clause is unit or falsified, or the clause of this number is falsified
abbrev pub IsReached : TrailValue → Reached → Type 0
IsReached t Closed = IsClosed t.clauses (truths t.entries)
IsReached t (Conflict r) = (c : List Lit) × (numbered t.clauses r ≡ Some c) × IsFalsified (truths t.entries) c

-- exactly the levels up to this one are kept
pub record IsCut (old new : TrailValue) (most : ℕ) : Type 0 where
  pub same : IsSame old new
  pub level : new.level ≡ most
  pub len : length new.entries ≤ length old.entries
  pub prefix : new.entries ≡ take (length new.entries) old.entries
  pub kept : (k : ℕ) → k < length new.entries → (entry old k).level ≤ most
  pub gone : (k : ℕ) → length new.entries ≤ k → k < length old.entries → most < (entry old k).level
