-- A graph with a node for one more expression.
use Rattle.std.specs.Prelude.{◌≡◌, ℕ, ◌<◌, length}
use Rattle.lv_source.specs.Names.{Valuation}
use Rattle.lv_source.specs.Values.{own_value}
use Rattle.lv_netlist.specs.Net.{width_at}
use Rattle.lv_flat.specs.declared.expr.FlatExpr.{FlatExpr}
use Rattle.lv_flat.specs.Cells.{all_cells}
use Rattle.lv_flat.specs.Signals.{Signals}
use Rattle.lv_flat.specs.Judged.{meaning}
use Rattle.lv_values.specs.Worlds.{World, Obeys, Grows}
use Rattle.lv_lower_exprs.specs.Tables.{IsTable, Shows, value_at}
use Rattle.lv_lower.specs.declared.lowered.Lowered.{Lowered}

-- node k has the expression's own width, and its own value under each valuation that the table shows; the table is the same
pub record Expresses (S : Signals) (old new : Lowered) (e : FlatExpr) (k : ℕ) : Type 0 where
  pub grows : Grows old.graph new.graph
  pub table_is : new.table.items ≡ old.table.items
  pub first_is : new.first.items ≡ old.first.items
  pub table_in : IsTable new.graph (all_cells S) new.table.items
  pub within : k < length new.graph.nodes
  pub width : width_at new.graph.nodes k ≡ (meaning S e).width
  pub is : (w : World) (v : Valuation) → Obeys new.graph w → Shows w (all_cells S) new.table.items v → value_at w k ≡ own_value (meaning S e) v
