-- Entries that may be there, one behind another, and whether two lists of them agree.
use Rattle.std.specs.Prelude.{◌≡◌, ℕ, ◌<◌, ◌==◌, Bool, true, false, not, ◌&&◌, ◌||◌, if◌then◌else◌, List, [], ◌∷◌, length, map}
use Rattle.std.specs.List.{AllByRecursion}
use Rattle.lv_bits.specs.Words.{Bits}
use Rattle.lv_netlist.specs.Net.{Net}
use Rattle.lv_unroll.specs.declared.slots.Slot.{Slot}
use Rattle.lv_unroll.specs.Wires.{number_in, is_on, Extends, AreLike}

-- whether the entry is there, and its values
pub record Place : Type 0 where
  pub there : Bool
  pub values : List ℕ

abbrev pub place_in : Net → List Bits → Slot → Place
place_in net inputs slot = record { there = is_on net inputs slot.on; values = map (number_in net inputs) slot.values.items }

abbrev pub places_in : Net → List Bits → List Slot → List Place
places_in net inputs slots = map (place_in net inputs) slots

-- n nodes of 128 bits
abbrev pub AreWide : Net → ℕ → List ℕ → Type 0
AreWide net n nodes = AreLike net n (λ i. 128) nodes

-- the slot's nodes are nodes of the net, with n values
pub record IsSlot (net : Net) (n : ℕ) (slot : Slot) : Type 0 where
  pub on : slot.on < length net.nodes
  pub values : AreWide net n slot.values.items

abbrev pub AreSlots : Net → ℕ → List Slot → Type 0
AreSlots net n slots = AllByRecursion (IsSlot net n) slots

-- all slots of both lists have equally many values
pub record AreBeside (net : Net) (left right : List Slot) : Type 0 where
  pub count : ℕ
  pub lefts : AreSlots net count left
  pub rights : AreSlots net count right

-- a slot that is this place
pub record GivesSlot (old new : Net) (n : ℕ) (slot : Slot) (place : List Bits → Place) : Type 0 where
  pub extends : Extends old new
  pub slot_is : IsSlot new n slot
  pub is : (inputs : List Bits) → place_in new inputs slot ≡ place inputs

-- slots that are these places
pub record GivesSlots (old new : Net) (n : ℕ) (slots : List Slot) (places : List Bits → List Place) : Type 0 where
  pub extends : Extends old new
  pub slots_are : AreSlots new n slots
  pub are : (inputs : List Bits) → places_in new inputs slots ≡ places inputs

-- nodes of these numbers
pub record GivesNumbers (old new : Net) (n : ℕ) (nodes : List ℕ) (numbers : List Bits → List ℕ) : Type 0 where
  pub extends : Extends old new
  pub alike : AreWide new n nodes
  pub are : (inputs : List Bits) → map (number_in new inputs) nodes ≡ numbers inputs

-- the numbers of xs where c isn't 0, else those of ys
abbrev pub chosen_numbers : Net → ℕ → List ℕ → List ℕ → List Bits → List ℕ
chosen_numbers net c xs ys inputs = if is_on net inputs c then map (number_in net inputs) xs else map (number_in net inputs) ys

-- the entry at a place once one more comes: it stays where it is there; `before` says whether the place before is taken
abbrev pub filled_place : Bool → Bool → List ℕ → Place → Place
filled_place before on values p = record { there = p.there || (before && on); values = if p.there then p.values else values }

abbrev pub filled_in : Net → ℕ → ℕ → List ℕ → Slot → List Bits → Place
filled_in net before on values slot inputs =
    filled_place (is_on net inputs before) (is_on net inputs on) (map (number_in net inputs) values) (place_in net inputs slot)

-- one more entry, where `on`, at the first place that is free; `before` says whether the place before is taken
abbrev pub appended : Bool → Bool → List ℕ → List Place → List Place
appended before on values [] = record { there = before && on; values = values } ∷ []
appended before on values (p ∷ ps) = filled_place before on values p ∷ appended p.there on values ps

abbrev pub appended_in : Net → ℕ → List ℕ → List Slot → List Bits → List Place
appended_in net on values slots inputs =
    appended true (is_on net inputs on) (map (number_in net inputs) values) (places_in net inputs slots)

-- the same numbers, as far as both go
abbrev pub same_values : List ℕ → List ℕ → Bool
same_values [] ys = true
same_values (x ∷ xs) [] = true
same_values (x ∷ xs) (y ∷ ys) = (x == y) && same_values xs ys

-- where both entries are there, they are the same
abbrev pub same_place : Place → Place → Bool
same_place p q = not (p.there && q.there) || same_values p.values q.values

abbrev pub same_places : List Place → List Place → Bool
same_places [] qs = true
same_places (p ∷ ps) [] = true
same_places (p ∷ ps) (q ∷ qs) = same_place p q && same_places ps qs

-- both or neither
abbrev pub same_flag : Bool → Bool → Bool
same_flag true u = u
same_flag false u = not u
