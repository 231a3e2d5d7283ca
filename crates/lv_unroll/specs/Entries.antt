-- The entries of a list of places, and the row of a cycle.
use Rattle.std.specs.Prelude.{◌≡◌, ℕ, ◌<◌, Bool, true, if◌then◌else◌, nat_eq, List, [], ◌∷◌, ◌++◌, length, map, slice_index}
use Rattle.std.specs.List.{AllByRecursion}
use Rattle.lv_bits.specs.Words.{Bits}
use Rattle.lv_netlist.specs.Net.{Net}
use Rattle.lv_unroll.specs.declared.slots.Slot.{Slot}
use Rattle.lv_unroll.specs.declared.rows.Port.{Port}
use Rattle.lv_unroll.specs.Wires.{number_in, Extends}
use Rattle.lv_unroll.specs.Slots.{Place, AreSlots, places_in}

-- the entries up to the first place that is free
abbrev pub entries_of : List Place → List (List ℕ)
entries_of [] = []
entries_of (p ∷ ps) = if p.there then p.values ∷ entries_of ps else []

-- no entry stands behind a free place; `before` says whether the place before is taken
abbrev pub IsPacked : Bool → List Place → Type 0
IsPacked before [] = Unit {0}
IsPacked before (p ∷ ps) = (p.there ≡ true → before ≡ true) × IsPacked p.there ps

-- so it is with the slots at all inputs
abbrev pub ArePacked : Net → List Slot → Type 0
ArePacked net slots = (inputs : List Bits) → IsPacked true (places_in net inputs slots)

-- both lists have equally many entries
abbrev pub equally_many : Net → List Slot → List Slot → List Bits → Bool
equally_many net left right inputs = nat_eq (length (entries_of (places_in net inputs left))) (length (entries_of (places_in net inputs right)))

-- what a port shows, where f gives the numbers of the nodes
abbrev pub entry_at : (ℕ → ℕ) → Port → List (List ℕ)
entry_at f p = if nat_eq (f p.retire) 0 then [] else map f p.contract.items ∷ []

-- what all ports show, in order
abbrev pub row_at : (ℕ → ℕ) → List Port → List (List ℕ)
row_at f [] = []
row_at f (p ∷ ps) = entry_at f p ++ row_at f ps

-- the numbers of the nodes of a graph by the table of their copies
abbrev pub numbers_by : Net → List Bits → List ℕ → ℕ → ℕ
numbers_by net inputs table k = number_in net inputs (slice_index table k)

-- the port's nodes are among the first n, and it shows `count` values
pub record IsPort (n count : ℕ) (port : Port) : Type 0 where
  pub retire : port.retire < n
  pub count_is : length port.contract.items ≡ count
  pub contract : (i : ℕ) → i < count → slice_index port.contract.items i < n

-- how many values an entry has
abbrev pub entry_length : List Port → ℕ
entry_length [] = 0
entry_length (p ∷ ps) = length p.contract.items

-- the ports' nodes are among the first n, and all ports show equally many values
abbrev pub ArePorts : ℕ → List Port → Type 0
ArePorts n ports = AllByRecursion (IsPort n (entry_length ports)) ports

-- the entries of the slots, and behind them what the ports show
abbrev pub entries_with : Net → List Slot → List Port → List ℕ → List Bits → List (List ℕ)
entries_with net slots ports table inputs = entries_of (places_in net inputs slots) ++ row_at (numbers_by net inputs table) ports

-- each entry of the table is a node
abbrev pub IsTable : Net → List ℕ → Type 0
IsTable net table = (k : ℕ) → k < length table → slice_index table k < length net.nodes

-- slots, packed, with these entries
pub record GivesEntries (old new : Net) (count places : ℕ) (slots : List Slot) (entries : List Bits → List (List ℕ)) : Type 0 where
  pub extends : Extends old new
  pub slots_are : AreSlots new count slots
  pub many : length slots ≡ places
  pub packed : ArePacked new slots
  pub are : (inputs : List Bits) → entries_of (places_in new inputs slots) ≡ entries inputs
