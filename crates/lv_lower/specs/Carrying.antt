-- Parts carried out on a table.
use Rattle.std.specs.Prelude.{ℕ, Bool, true, false, List}
use Rattle.std.specs.List.{list_all}
use Rattle.lv_source.specs.Names.{Valuation}
use Rattle.lv_source.specs.Views.{View}
use Rattle.lv_netlist.specs.Net.{Net}
use Rattle.lv_flat.specs.declared.part.FlatBody.{FlatBody}
use Rattle.lv_flat.specs.declared.part.FlatBody.TheVariants as b
use Rattle.lv_flat.specs.Cells.{all_cells}
use Rattle.lv_flat.specs.Flows.{flow}
use Rattle.lv_flat.specs.FlatViews.{after}
use Rattle.lv_flat.specs.Signals.{Signals}
use Rattle.lv_values.specs.Worlds.{World, Obeys, Grows}
use Rattle.lv_lower_exprs.specs.Tables.{IsTable, Shows}
use Rattle.lv_settles.specs.Orders.{carried}

-- it has no clock and no `<=`
abbrev pub is_plain : Signals → FlatBody → Bool
is_plain S (b.Assign t x) = true
is_plain S (b.Combinational s) = list_all (λ e. e.at_once) (flow S s).events
is_plain S (b.Clocked e s) = false

-- a table that showed a valuation shows what the part leaves of it
pub record Leaves (old new : Net) (S : Signals) (before after' : List ℕ) (body : FlatBody) : Type 0 where
  pub grows : Grows old new
  pub table : IsTable new (all_cells S) after'
  pub is : (w : World) (v : Valuation) → Obeys new w → Shows w (all_cells S) before v → Shows w (all_cells S) after' (after S body v)

-- and so for the parts of these numbers, one after another
pub record Carries (old new : Net) (S : Signals) (vs : List View) (before after' : List ℕ) (order : List ℕ) : Type 0 where
  pub grows : Grows old new
  pub table : IsTable new (all_cells S) after'
  pub is : (w : World) (v : Valuation) → Obeys new w → Shows w (all_cells S) before v → Shows w (all_cells S) after' (carried vs order v)
