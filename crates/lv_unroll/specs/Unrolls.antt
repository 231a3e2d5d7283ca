-- A graph unrolled: a copy for each cycle.
use Rattle.std.specs.Prelude.{◌≡◌, ℕ, List, length, map, slice_index, Some, None}
use Rattle.std.specs.List.{AllByRecursion}
use Rattle.lv_bits.specs.Words.{Bits}
use Rattle.lv_netlist.specs.declared.node.Register.{Register}
use Rattle.lv_netlist.specs.Net.{Net, width_at}
use Rattle.lv_netlist.specs.Stepping.{run_of}
use Rattle.lv_unroll.specs.declared.copies.Nodes.{Nodes}
use Rattle.lv_unroll.specs.Wires.{word_in, Extends, AreLike}
use Rattle.lv_unroll.specs.Copies.{AreInputs}

-- the copy of a register's next node
abbrev pub next_node : List ℕ → List ℕ × Register → ℕ
next_node table register = elim register.1.next [ Some m ↦ slice_index table m | None ↦ 0 ]

abbrev pub next_nodes : Net → List ℕ → List ℕ
next_nodes graph table = map (next_node table) graph.registers

-- the words of these nodes
abbrev pub words_in : Net → List Bits → Nodes → List Bits
words_in net inputs nodes = map (word_in net inputs) nodes.list.items

-- one node for each input of the graph
abbrev pub IsCycle : Net → Net → Nodes → Type 0
IsCycle net graph nodes = AreInputs net graph nodes.list.items

-- a node for each node of the graph
abbrev pub IsCopy : Net → Net → Nodes → Type 0
IsCopy net graph nodes = AreLike net (length graph.nodes) (width_at graph.nodes) nodes.list.items

-- a table for each cycle, whose words are those of the graph's nodes in the run from these words, under the words of these inputs
pub record Unrolls (graph old new : Net) (state : List ℕ) (inputs tables : List Nodes) : Type 0 where
  pub extends : Extends old new
  pub many : length tables ≡ length inputs
  pub copies : AllByRecursion (IsCopy new graph) tables
  pub are : (words : List Bits) → map (words_in new words) tables ≡ run_of graph (map (word_in old words) state) (map (words_in old words) inputs)
