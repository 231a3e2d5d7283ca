-- A net with those nodes of another one that its goal rests on.
use Rattle.std.specs.Prelude.{◌≡◌, ◌≢◌, ℕ, ◌<◌, ◌==◌, Bool, true, false, not, ◌&&◌, List, [], length, slice_index}
use Rattle.lv_bits.specs.Words.{Bits}
use Rattle.lv_netlist.specs.declared.node.Node.{Node}
use Rattle.lv_netlist.specs.declared.node.Node.TheVariants.{Input, Reg, Const, Un, Bin, Mux, Slice, Cat, Ext}
use Rattle.lv_netlist.specs.Net.{Net, width_at, input_width}
use Rattle.lv_netlist.specs.Run.{bits_at}
use Rattle.lv_netlist.specs.Queries.{port_widths}
use Rattle.lv_unroll.specs.Wires.{word_in, Extends}

-- no node: the greatest number
abbrev pub no_copy : ℕ
no_copy = 18446744073709551615

-- the table has a copy of this node
abbrev pub is_there : List ℕ → ℕ → Bool
is_there table a = not (slice_index table a == no_copy)

-- the table has copies of the operands of an inner node
abbrev pub is_ready : List ℕ → Node → Bool
is_ready table (Input i) = false
is_ready table (Reg i) = false
is_ready table (Const w) = true
is_ready table (Un op a) = is_there table a
is_ready table (Bin op a b signed) = is_there table a && is_there table b
is_ready table (Mux c a b) = is_there table c && is_there table a && is_there table b
is_ready table (Slice a low width) = is_there table a
is_ready table (Cat a b) = is_there table a && is_there table b
is_ready table (Ext a width signed) = is_there table a

-- the node is a copy of node k: it has its width, and its word at all inputs
pub record IsCopyOf (whole net : Net) (k at : ℕ) : Type 0 where
  pub within : at < length net.nodes
  pub width : width_at net.nodes at ≡ width_at whole.nodes k
  pub word : (inputs : List Bits) → word_in net inputs at ≡ word_in whole inputs k

-- a copy of node k, or none
pub record GivesCopy (whole old new : Net) (k at : ℕ) : Type 0 where
  pub extends : Extends old new
  pub is : at ≢ no_copy → IsCopyOf whole new k at

-- entry k of the table is a copy of node k, or none, as far as it goes
pub record AreCopies (whole net : Net) (k : ℕ) (table : List ℕ) : Type 0 where
  pub count : length table ≡ k
  pub are : (a : ℕ) → a < k → slice_index table a ≢ no_copy → IsCopyOf whole net a (slice_index table a)

-- node i is input i, of the same width
pub record AreOpen (whole net : Net) : Type 0 where
  pub within : (i : ℕ) → i < length whole.inputs → i < length net.nodes
  pub widths : (i : ℕ) → i < length whole.inputs → width_at net.nodes i ≡ input_width whole i
  pub words : (inputs : List Bits) (i : ℕ) → i < length whole.inputs → word_in net inputs i ≡ bits_at inputs i

-- the same inputs, no registers, and a node that is a copy of the goal
pub record IsTrimmed (whole net : Net) (goal at : ℕ) : Type 0 where
  pub registers : net.registers ≡ []
  pub ports : port_widths net ≡ port_widths whole
  pub goal_is : IsCopyOf whole net goal at
