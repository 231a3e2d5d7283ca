-- The values of a graph's nodes in a cycle, as far as the graph says them: a longer graph says more of the same values.
use Rattle.std.specs.Prelude.{◌≡◌, ℕ, ◌<◌, ◌≤◌, ◌^◌, List, length}
use Rattle.lv_bits.specs.Words.{Bits}
use Rattle.lv_netlist.specs.Net.{Net, node_at, width_at}
use Rattle.lv_netlist.specs.Run.{bits_at, node_bits}
use Rattle.lv_values.specs.declared.value.Value.{Value}
use Rattle.lv_values.specs.declared.value.Value.TheVariants.{Known, Node}

-- the registers and the inputs of a cycle, and a word for each node
pub record World : Type 0 where
  pub state : List Bits
  pub inputs : List Bits
  pub values : List Bits

-- each node has its value
pub record Obeys (net : Net) (w : World) : Type 0 where
  pub values : (k : ℕ) → k < length net.nodes → bits_at w.values k ≡ node_bits w.state w.inputs w.values (node_at net.nodes k).node
  pub widths : (k : ℕ) → k < length net.nodes → (bits_at w.values k).width ≡ width_at net.nodes k
  pub fits : (k : ℕ) → k < length net.nodes → (bits_at w.values k).value < 2 ^ width_at net.nodes k

-- more nodes
pub record Grows (old new : Net) : Type 0 where
  pub more : length old.nodes ≤ length new.nodes
  pub same : (k : ℕ) → k < length old.nodes → node_at new.nodes k ≡ node_at old.nodes k
  pub inputs : new.inputs ≡ old.inputs
  pub registers : new.registers ≡ old.registers

abbrev pub bits_of : World → Value → Bits
bits_of w (Known x) = x
bits_of w (Node k width) = bits_at w.values k

abbrev pub number : World → Value → ℕ
number w r = (bits_of w r).value

abbrev pub width_of : Value → ℕ
width_of (Known x) = x.width
width_of (Node k width) = width

-- a word, or a node of the graph with its width
abbrev pub IsIn : Net → Value → Type 0
IsIn net (Known x) = x.value < 2 ^ x.width
IsIn net (Node k width) = (k < length net.nodes) × (width_at net.nodes k ≡ width)

-- the graph has become longer, and r has W bits and this value
pub record Gives (old new : Net) (r : Value) (W : ℕ) (f : World → ℕ) : Type 0 where
  pub grows : Grows old new
  pub in_new : IsIn new r
  pub width : width_of r ≡ W
  pub is : (w : World) → Obeys new w → number w r ≡ f w

abbrev pub IsKnown : Value → Type 0
IsKnown (Known x) = Unit {0}
IsKnown (Node k width) = ⊥
