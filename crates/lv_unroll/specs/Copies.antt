-- A copy of a graph within another.
use Rattle.std.specs.Prelude.{◌≡◌, ℕ, List, [], map, take, length, slice_index}
use Rattle.lv_bits.specs.Words.{Bits}
use Rattle.lv_netlist.specs.declared.node.Node.{Node}
use Rattle.lv_netlist.specs.declared.node.Node.TheVariants.{Input, Reg, Const, Un, Bin, Mux, Slice, Cat, Ext}
use Rattle.lv_netlist.specs.Net.{Net, node_at, width_at, input_width, register_width}
use Rattle.lv_netlist.specs.Run.{values_from, node_bits}
use Rattle.lv_unroll.specs.Wires.{word_in, Extends, AreLike}

-- the node whose operands are those of the table
abbrev pub moved_node : List ℕ → Node → Node
moved_node table (Input i) = Input i
moved_node table (Reg i) = Reg i
moved_node table (Const w) = Const w
moved_node table (Un op a) = Un op (slice_index table a)
moved_node table (Bin op a b signed) = Bin op (slice_index table a) (slice_index table b) signed
moved_node table (Mux c a b) = Mux (slice_index table c) (slice_index table a) (slice_index table b)
moved_node table (Slice a low width) = Slice (slice_index table a) low width
moved_node table (Cat a b) = Cat (slice_index table a) (slice_index table b)
moved_node table (Ext a width signed) = Ext (slice_index table a) width signed

-- the word of node k of the graph, over the words of these nodes for its registers, its inputs and its nodes before
abbrev pub copied_word : Net → Net → List ℕ → List ℕ → List ℕ → ℕ → List Bits → Bits
copied_word net graph state inputs table k words =
    node_bits (map (word_in net words) state) (map (word_in net words) inputs) (map (word_in net words) table) (node_at graph.nodes k).node

-- one node for each register of the graph, of its width
abbrev pub AreStates : Net → Net → List ℕ → Type 0
AreStates net graph nodes = AreLike net (length graph.registers) (register_width graph) nodes

-- one node for each input of the graph, of its width
abbrev pub AreInputs : Net → Net → List ℕ → Type 0
AreInputs net graph nodes = AreLike net (length graph.inputs) (input_width graph) nodes

-- the nodes of the table are copies of the first k nodes of the graph, over these nodes for its registers and its inputs
pub record Copies (graph old new : Net) (state inputs : List ℕ) (k : ℕ) (table : List ℕ) : Type 0 where
  pub extends : Extends old new
  pub alike : AreLike new k (width_at graph.nodes) table
  pub is :
      (words : List Bits) → map (word_in new words) table ≡ values_from (map (word_in old words) state) (map (word_in old words) inputs) []
      (take k graph.nodes)
