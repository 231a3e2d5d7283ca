-- Lists that are threaded through slots, which are numbered from 1; 0 ends a list, and a slot of list 0 is in none.
use Rattle.std.specs.Prelude.{◌≡◌, ℕ, suc, zero, ◌+◌, ◌-◌, ◌*◌, ◌%◌, ◌<◌, ◌≤◌, true, false, eqb, cond, List, [], ◌∷◌, length, get_or}
use Rattle.std.specs.List.{list_any}
use Rattle.lv_clauses.specs.Literals.{Lit}
use Rattle.lv_trail.specs.declared.lists.Slot.{Slot}

-- the number of a literal's list
abbrev pub code : Lit → ℕ
code l = 2 * l.var + cond l.neg 1 0

-- the other slot of the same clause
abbrev pub mate : ℕ → ℕ
mate x = cond (eqb ((x - 1) % 2) 0) (x + 1) (x - 1)

abbrev pub no_slot : Slot
no_slot = record { list = 0; next = 0 }

abbrev pub slot_at : List Slot → ℕ → Slot
slot_at ss x = get_or ss (x - 1) no_slot

abbrev pub In : ℕ → List ℕ → Type 0
In x xs = list_any (eqb x) xs ≡ true

abbrev pub NotIn : ℕ → List ℕ → Type 0
NotIn x xs = list_any (eqb x) xs ≡ false

-- the slots that follow from this one
abbrev pub IsChain : List Slot → ℕ → List ℕ → Type 0
IsChain ss h [] = h ≡ 0
IsChain ss h (x ∷ xs) = (h ≡ x) × (1 ≤ x) × (x ≤ length ss) × NotIn x xs × IsChain ss (slot_at ss x).next xs

-- the chain from h has the slots of list w, but for those that stand apart
pub record IsListOf (ss : List Slot) (apart : List ℕ) (w h : ℕ) : Type 0 where
  pub slots : List ℕ
  pub chain : IsChain ss h slots
  pub within : (x : ℕ) → In x slots → ((slot_at ss x).list ≡ w) × NotIn x apart
  pub all : (x : ℕ) → 1 ≤ x → x ≤ length ss → (slot_at ss x).list ≡ w → NotIn x apart → In x slots

-- each list is a chain of its slots
abbrev pub AreChains : List ℕ → List Slot → List ℕ → Type 0
AreChains heads ss apart = (w : ℕ) → 1 ≤ w → w < length heads → IsListOf ss apart w (get_or heads w 0)

-- how many slots follow, counted at most so far
abbrev pub steps : ℕ → List Slot → ℕ → ℕ
steps zero ss h = 0
steps (suc n) ss h = cond (eqb h 0) 0 (steps n ss (slot_at ss h).next + 1)
