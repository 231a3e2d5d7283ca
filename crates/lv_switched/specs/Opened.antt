-- The nodes of a query's words, with the switches behind them.
use Rattle.std.specs.Prelude.{◌≡◌, ℕ, ◌+◌, List, length}
use Rattle.std.specs.List.{range_with_len}
use Rattle.lv_netlist.specs.Net.{Net}
use Rattle.lv_netlist.specs.Queries.{product_widths}
use Rattle.lv_unroll.specs.declared.copies.Nodes.{Nodes}
use Rattle.lv_product.specs.Opening.{Opens, ranges, lists_of}
use Rattle.lv_switched.specs.Switches.{switched_widths}

-- the nodes of the words
pub record AreOpened (graph net : Net) (n count aligned : ℕ) (left right : List ℕ) (inputs : List Nodes) : Type 0 where
  pub opens : Opens (switched_widths graph n count) net
  pub left_is : left ≡ range_with_len 0 (length graph.registers)
  pub right_is : right ≡ range_with_len (length graph.registers) (length graph.registers)
  pub inputs_are : lists_of inputs ≡ ranges (length graph.registers + length graph.registers) (length graph.inputs) n
  pub aligned_is : aligned + 1 ≡ length (product_widths graph n)
