-- What two watched literals of a clause say of its status.
use Rattle.std.specs.Prelude.{◌≡◌, ℕ, ◌+◌, ◌*◌, ◌^◌, ◌<◌, ◌≤◌, Bool, false, eqb, cond, List, [], length, get_or, slice_get, IsTrue, Some, ◌⊎◌}
use Rattle.std.specs.List.{list_any}
use Rattle.lv_clauses.specs.Literals.{Lit, negated, has}
use Rattle.lv_trail.specs.declared.store.Entry.{Entry}
use Rattle.lv_trail.specs.declared.lists.Slot.{Slot}
use Rattle.lv_trail.specs.declared.watched.Watched.{Watched}
use Rattle.lv_trail.specs.Trail.{no_entry}
use Rattle.lv_trail.specs.Store.{entries, IsSound}
use Rattle.lv_trail.specs.Chains.{code, slot_at, steps, In, IsChain, AreChains}

-- the literal is true, and unless loose so since this level or before
abbrev pub IsTrueBy : List Entry → Bool → ℕ → Lit → Type 0
IsTrueBy es loose most l = (j : ℕ) × (j < length es) × ((get_or es j no_entry).lit ≡ l) × (loose ≡ false → (get_or es j no_entry).level ≤ most)

-- where one of the first n true literals makes a false, b is true
abbrev pub Guards : List Entry → Bool → ℕ → Lit → Lit → Type 0
Guards es loose n a b = (k : ℕ) → k < n → (get_or es k no_entry).lit ≡ negated a → IsTrueBy es loose (get_or es k no_entry).level b

-- two literals watch clause k, and each is known to be false only where the other is true
pub record IsLong (es : List Entry) (loose : Bool) (known : ℕ → ℕ) (ss : List Slot) (k : ℕ) (c : List Lit) : Type 0 where
  pub first : Lit
  pub second : Lit
  pub inside_first : IsTrue (has c first)
  pub inside_second : IsTrue (has c second)
  pub differ : first ≡ second → ⊥
  pub list_first : (slot_at ss (2 * k + 1)).list ≡ code first
  pub list_second : (slot_at ss (2 * k + 2)).list ≡ code second
  pub guard_first : Guards es loose (known (2 * k + 1)) first second
  pub guard_second : Guards es loose (known (2 * k + 2)) second first

-- the clause has one literal, which is true
pub record IsShort (es : List Entry) (loose : Bool) (ss : List Slot) (k : ℕ) (c : List Lit) : Type 0 where
  pub only : Lit
  pub inside : IsTrue (has c only)
  pub alone : (l : Lit) → IsTrue (has c l) → l ≡ only
  pub is : IsTrueBy es loose 0 only
  pub list_first : (slot_at ss (2 * k + 1)).list ≡ 0
  pub list_second : (slot_at ss (2 * k + 2)).list ≡ 0

abbrev pub IsKept : List Entry → Bool → (ℕ → ℕ) → List Slot → ℕ → List Lit → Type 0
IsKept es loose known ss k c = IsLong es loose known ss k c ⊎ IsShort es loose ss k c

-- how many true literals each slot knows, and which slots stand apart
pub record AreWatched (t : Watched) (known : ℕ → ℕ) (apart : List ℕ) : Type 0 where
  pub sound : IsSound t.store
  pub few : t.store.vars < 2 ^ 60
  pub heads : length t.lists.heads.items ≡ 2 * t.store.vars + 2
  pub slots : length t.lists.slots.items ≡ 2 * length t.store.clauses
  pub head : t.head ≤ t.store.len
  pub checked : t.checked ≤ length t.store.clauses
  pub chains : AreChains t.lists.heads.items t.lists.slots.items apart
  pub kept : (k : ℕ) (c : List Lit) → k < t.checked → slice_get t.store.clauses k ≡ Some c → IsKept (entries t.store) t.loose known t.lists.slots.items k c
  pub rest : (x : ℕ) → 2 * t.checked < x → x ≤ length t.lists.slots.items → (slot_at t.lists.slots.items x).list ≡ 0

-- each slot knows the first true literals
abbrev pub IsWatched : Watched → Type 0
IsWatched t = AreWatched t (λ x. t.head) []

-- the slots that are off their list don't know the next true literal
abbrev pub known_by : ℕ → List ℕ → ℕ → ℕ
known_by head apart x = cond (list_any (eqb x) apart) head (head + 1)

-- how many slots are off their list
abbrev pub left : Watched → ℕ
left t = steps (length t.lists.slots.items + 1) t.lists.slots.items t.apart

-- the slots of a literal's list are gone through, since it has become false
pub record IsVisit (t : Watched) (w : ℕ) : Type 0 where
  pub apart : List ℕ
  pub chain : IsChain t.lists.slots.items t.apart apart
  pub listed : (x : ℕ) → In x apart → (slot_at t.lists.slots.items x).list ≡ w
  pub watched : AreWatched t (known_by t.head apart) apart
  pub more : t.head < t.store.len
  pub list : w ≡ code (negated (get_or (entries t.store) t.head no_entry).lit)
  pub level : t.loose ≡ false → t.store.level ≤ (get_or (entries t.store) t.head no_entry).level
