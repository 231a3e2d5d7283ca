-- A graph with a node for each cell, as it is before the parts are carried out.
use Rattle.std.specs.Prelude.{◌≡◌, ℕ, ◌<◌, ◌≤◌, List, [], ◌∷◌, length, slice_index_or, bytes_eq, if◌then◌else◌}
use Rattle.lv_source.specs.Names.{Valuation}
use Rattle.lv_netlist.specs.declared.node.Node.TheVariants.{Const}
use Rattle.lv_netlist.specs.Net.{Net, with_node, with_input, with_register}
use Rattle.lv_flat.specs.Cells.{Cell}
use Rattle.lv_values.specs.Worlds.{World}
use Rattle.lv_lower_exprs.specs.Tables.{value_at}
use Rattle.lv_lower.specs.declared.slot.Kind.TheVariants.{Input, Register, Zero}
use Rattle.lv_lower.specs.declared.slot.Slot.{Slot}

-- one more cell
abbrev pub add_slot : Net → Slot → Net
add_slot net s = elim s.kind [
  | Input ↦ with_input net s.name s.width
  | Register ↦ with_register net s.name s.width
  | Zero ↦ with_node net (record { node = Const (record { width = s.width; value = 0 }); width = s.width })
]

-- and more, in order
abbrev pub net_from : Net → List Slot → Net
net_from net [] = net
net_from net (s ∷ ss) = net_from (add_slot net s) ss

abbrev pub slot_at : List Slot → ℕ → Slot
slot_at ss k = slice_index_or ss k (record { name = []; width = 0; kind = Zero })

abbrev pub cell_in : Slot → Cell
cell_in s = record { name = s.name; width = s.width }

-- what the type of a graph asks of them
pub record AreSlots (ss : List Slot) : Type 0 where
  pub some : (k : ℕ) → k < length ss → 1 ≤ (slot_at ss k).width
  pub most : (k : ℕ) → k < length ss → (slot_at ss k).width ≤ 128
  pub distinct : (i j : ℕ) → i < length ss → j < length ss → (slot_at ss i).name ≡ (slot_at ss j).name → i ≡ j

-- the values of the nodes of a table, by the names of the cells; 0 for other names
abbrev pub valuation_of : World → List Cell → List ℕ → Valuation
valuation_of w [] ks name = 0
valuation_of w (c ∷ cs) [] name = 0
valuation_of w (c ∷ cs) (k ∷ ks) name = if bytes_eq name c.name then value_at w k else valuation_of w cs ks name
