-- A flat design as a graph: the valuations of its worlds are the settled valuations of the design.
use Rattle.std.specs.Prelude.{◌≡◌, ℕ, ◌<◌, ◌/◌, ◌%◌, ◌^◌, List, length, map, filter, Some}
use Rattle.std.specs.List.{range_with_len}
use Rattle.lv_source.specs.Names.{Valuation, is_input_sort}
use Rattle.lv_source.specs.Places.{Bit, bit_at}
use Rattle.lv_source.specs.Views.{View, IsViewSettled, next_view_bit, view_registers}
use Rattle.lv_netlist.specs.declared.node.Register.{Register}
use Rattle.lv_netlist.specs.Net.{Net, no_nodes, input_name, register_name, register_width, register_next}
use Rattle.lv_netlist.specs.Run.{bits_at}
use Rattle.lv_flat.specs.Cells.{Cell, all_cells}
use Rattle.lv_flat.specs.Signals.{Signals}
use Rattle.lv_values.specs.Worlds.{World, Obeys, Grows}
use Rattle.lv_lower_exprs.specs.Tables.{IsTable, AreFirsts, Shows, value_at}
use Rattle.lv_settles.specs.Rules.{signals_in}
use Rattle.lv_settles.specs.Orders.{carried}
use Rattle.lv_lower.specs.Slots.{all_slots}
use Rattle.lv_lower.specs.Started.{net_from, valuation_of}

-- its inputs and registers have the values of the world
pub record IsGiven (net : Net) (w : World) (v : Valuation) : Type 0 where
  pub inputs : (i : ℕ) → i < length net.inputs → v (input_name net i) ≡ (bits_at w.inputs i).value
  pub registers : (i : ℕ) → i < length net.registers → v (register_name net i) ≡ (bits_at w.state i).value

-- a cell as an input
abbrev pub entry_of : Cell → List ℕ × ℕ
entry_of c = (c.name, c.width)

abbrev pub register_entry : List ℕ × Register → List ℕ × ℕ
register_entry r = (r.0, r.1.width)

-- the bits of the next node of register i are those that the parts with a clock leave of v
abbrev pub IsNext : Net → List View → World → Valuation → ℕ → Type 0
IsNext net vs w v i = (m j : ℕ) → register_next net i ≡ Some m → j < register_width net i →
    value_at w m / 2 ^ j % 2 ≡ next_view_bit vs v (record { name = register_name net i; place = j })

-- the valuation of the table is the one settled valuation with these registers and inputs
pub record IsSettling (S : Signals) (vs : List View) (net : Net) (table : List ℕ) : Type 0 where
  pub settles : (w : World) → Obeys net w → IsViewSettled (signals_in S) vs (valuation_of w (all_cells S) table)
  pub given : (w : World) → Obeys net w → IsGiven net w (valuation_of w (all_cells S) table)
  pub shows : (w : World) (v : Valuation) → Obeys net w → IsViewSettled (signals_in S) vs v → IsGiven net w v → Shows w (all_cells S) table v

pub record IsLowered (S : Signals) (vs : List View) (net : Net) (table first : List ℕ) : Type 0 where
  pub table_is : IsTable net (all_cells S) table
  pub first_is : AreFirsts S first
  -- inputs and registers in the order of the signals
  pub inputs : net.inputs ≡ map entry_of (all_cells (filter (λ x. is_input_sort x.sort) (signals_in S)))
  pub registers : map register_entry net.registers ≡ map entry_of (all_cells (view_registers (signals_in S) vs))
  pub settling : IsSettling S vs net table
  pub next : (w : World) (i : ℕ) → Obeys net w → i < length net.registers → IsNext net vs w (valuation_of w (all_cells S) table) i

-- a table that shows what the parts of an order leave of what the first table shows
pub record IsCarried (S : Signals) (vs : List View) (order : List ℕ) (net : Net) (table : List ℕ) : Type 0 where
  pub grows : Grows (net_from no_nodes (all_slots vs S)) net
  pub table_is : IsTable net (all_cells S) table
  pub leaves : (w : World) (v : Valuation) → Obeys net w → Shows w (all_cells S) (range_with_len 0 (length (all_slots vs S))) v →
      Shows w (all_cells S) table (carried vs order v)

-- and one that shows what the parts with a clock leave of it
pub record LeavesNext (S : Signals) (vs : List View) (net : Net) (table done : List ℕ) : Type 0 where
  pub is : (w : World) → Obeys net w → (u : Valuation) × Shows w (all_cells S) done u ×
      ((b : Bit) → bit_at u b ≡ next_view_bit vs (valuation_of w (all_cells S) table) b)
