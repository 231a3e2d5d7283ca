-- A node for each cell, and what an expression's value means over it.
use Rattle.std.specs.Prelude.{◌≡◌, ℕ, ◌<◌, List, length, take, slice_index}
use Rattle.lv_source.specs.Names.{Declared, Valuation}
use Rattle.lv_netlist.specs.Net.{Net, width_at}
use Rattle.lv_netlist.specs.Run.{bits_at}
use Rattle.lv_flat.specs.Cells.{Cell, cell_at, all_cells, AreDistinct}
use Rattle.lv_values.specs.declared.value.Value.{Value}
use Rattle.lv_values.specs.Worlds.{World, Obeys, Grows, IsIn, width_of, number}

-- a node of the cell's width for each cell
pub record IsTable (net : Net) (cells : List Cell) (table : List ℕ) : Type 0 where
  pub count : length table ≡ length cells
  pub within : (i : ℕ) → i < length cells → slice_index table i < length net.nodes
  pub widths : (i : ℕ) → i < length cells → width_at net.nodes (slice_index table i) ≡ (cell_at cells i).width

-- the nodes have the values of the cells
pub record Shows (w : World) (cells : List Cell) (table : List ℕ) (v : Valuation) : Type 0 where
  pub is : (i : ℕ) → i < length cells → (bits_at w.values (slice_index table i)).value ≡ v (cell_at cells i).name

-- the graph has become longer, and r has W bits and this value of what the table shows
pub record Means (old new : Net) (r : Value) (cells : List Cell) (table : List ℕ) (W : ℕ) (f : Valuation → ℕ) : Type 0 where
  pub grows : Grows old new
  pub in_new : IsIn new r
  pub width : width_of r ≡ W
  pub is : (w : World) (v : Valuation) → Obeys new w → Shows w cells table v → number w r ≡ f v

-- the number of the first cell of each signal
pub record AreFirsts (ds : List Declared) (first : List ℕ) : Type 0 where
  pub count : length first ≡ length ds
  pub is : (k : ℕ) → k < length ds → slice_index first k ≡ length (all_cells (take k ds))
  pub distinct : AreDistinct (all_cells ds)

-- the value of a node
abbrev pub value_at : World → ℕ → ℕ
value_at w k = (bits_at w.values k).value
