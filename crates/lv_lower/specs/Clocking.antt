-- Parts with a clock on a second table.
use Rattle.std.specs.Prelude.{List, ℕ}
use Rattle.lv_source.specs.Names.{Valuation}
use Rattle.lv_netlist.specs.Net.{Net}
use Rattle.lv_flat.specs.Cells.{all_cells}
use Rattle.lv_flat.specs.Signals.{Signals}
use Rattle.lv_values.specs.Worlds.{World, Obeys, Grows}
use Rattle.lv_lower_exprs.specs.Tables.{IsTable, Shows}

-- a table that showed u shows what f leaves of it, where another table shows the v that is read
pub record Overwrites (old new : Net) (S : Signals) (table before after' : List ℕ) (f : Valuation → Valuation → Valuation) : Type 0 where
  pub grows : Grows old new
  pub table_is : IsTable new (all_cells S) after'
  pub is : (w : World) (v u : Valuation) → Obeys new w → Shows w (all_cells S) table v → Shows w (all_cells S) before u → Shows w (all_cells S) after' (f v u)

-- a new table shows what f leaves of the v that the first table shows
pub record Follows (old new : Net) (S : Signals) (table after' : List ℕ) (f : Valuation → Valuation) : Type 0 where
  pub grows : Grows old new
  pub table_is : IsTable new (all_cells S) after'
  pub is : (w : World) (v : Valuation) → Obeys new w → Shows w (all_cells S) table v → Shows w (all_cells S) after' (f v)
