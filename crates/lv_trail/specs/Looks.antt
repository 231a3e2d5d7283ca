-- What looks at clauses find and leave.
use Rattle.std.specs.Prelude.{◌≡◌, ℕ, ◌+◌, ◌-◌, ◌/◌, ◌<◌, ◌≤◌, false, List, length, get_or, slice_get, IsTrue, Some, ◌⊎◌}
use Rattle.lv_clauses.specs.Literals.{Lit, negated, has}
use Rattle.lv_trail.specs.declared.watched.Watched.{Watched}
use Rattle.lv_trail.specs.declared.watched.Seen.{Seen}
use Rattle.lv_trail.specs.declared.watched.Seen.TheVariants.{Falsified, Kept}
use Rattle.lv_trail.specs.declared.store.Store.{Store}
use Rattle.lv_trail.specs.declared.store.Reached.TheVariants.{Conflict}
use Rattle.lv_trail.specs.Trail.{no_entry, truths}
use Rattle.lv_trail.specs.Store.{entries, IsReached}
use Rattle.lv_trail.specs.Chains.{code, mate, slot_at, In, IsChain}
use Rattle.lv_trail.specs.Watches.{left, IsTrueBy, Guards, AreWatched}

-- the literal of the next clause isn't false, and all its others are
pub record IsLast (t : Watched) (l : Lit) : Type 0 where
  pub clause : List Lit
  pub at : slice_get t.store.clauses t.checked ≡ Some clause
  pub inside : IsTrue (has clause l)
  pub open_lit : has (truths (entries t.store)) (negated l) ≡ false
  pub others : (m : Lit) → IsTrue (has clause m) → (code m ≡ code l → ⊥) → IsTrue (has (truths (entries t.store)) (negated m))

-- two literals that can watch the next clause
pub record IsPair (t : Watched) (first second : Lit) : Type 0 where
  pub clause : List Lit
  pub at : slice_get t.store.clauses t.checked ≡ Some clause
  pub inside_first : IsTrue (has clause first)
  pub inside_second : IsTrue (has clause second)
  pub differ : code second ≡ code first → ⊥
  pub guard_first : Guards (entries t.store) t.loose t.head first second
  pub guard_second : Guards (entries t.store) t.loose t.head second first

-- the other watch of the first slot that is off its list has become true
pub record IsStaying (t : Watched) : Type 0 where
  pub other : Lit
  pub list : (slot_at t.lists.slots.items (mate t.apart)).list ≡ code other
  pub is : IsTrueBy (entries t.store) t.loose (get_or (entries t.store) t.head no_entry).level other

-- a literal of its clause that isn't false, and isn't the other watch
pub record IsMoving (t : Watched) (to : ℕ) : Type 0 where
  pub own : Lit
  pub clause : List Lit
  pub at : slice_get t.store.clauses ((t.apart - 1) / 2) ≡ Some clause
  pub list : to ≡ code own
  pub inside : IsTrue (has clause own)
  pub differ : code own ≡ (slot_at t.lists.slots.items (mate t.apart)).list → ⊥
  pub open_lit : has (truths (entries t.store)) (negated own) ≡ false

-- the slot may go on this list
abbrev pub IsSettled : Watched → ℕ → ℕ → Type 0
IsSettled t w to = ((to ≡ w) × IsStaying t) ⊎ IsMoving t to

abbrev pub IsSeen : Store → Seen → Type 0
IsSeen t (Falsified id) = IsReached t (Conflict id)
IsSeen t Kept = Unit {0}

-- one more clause is watched
abbrev pub IsNextSeen : Watched → Watched → Seen → Type 0
IsNextSeen old new (Falsified id) = Unit {0}
IsNextSeen old new Kept = new.checked ≡ old.checked + 1

abbrev pub AreAllSeen : Watched → Seen → Type 0
AreAllSeen t (Falsified id) = Unit {0}
AreAllSeen t Kept = t.checked ≡ length t.store.clauses

-- one slot less is off its list
abbrev pub IsFollowed : Watched → Watched → Seen → Type 0
IsFollowed old new (Falsified id) = Unit {0}
IsFollowed old new Kept = left new + 1 ≡ left old

-- the watches know one more true literal
abbrev pub IsHeaded : Watched → Watched → Seen → Type 0
IsHeaded old new (Falsified id) = Unit {0}
IsHeaded old new Kept = new.head ≡ old.head + 1

-- slots of a list stand apart, while all slots know the same true literals
pub record IsApart (t : Watched) (w : ℕ) : Type 0 where
  pub apart : List ℕ
  pub chain : IsChain t.lists.slots.items t.apart apart
  pub listed : (x : ℕ) → In x apart → (slot_at t.lists.slots.items x).list ≡ w
  pub watched : AreWatched t (λ x. t.head) apart
  pub some : 2 ≤ w
  pub within : w < length t.lists.heads.items
