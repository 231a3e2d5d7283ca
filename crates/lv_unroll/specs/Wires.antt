-- Words of the nodes of a graph without registers, and what a builder gains by further nodes.
use Rattle.std.specs.Prelude.{◌≡◌, ℕ, ◌<◌, ◌≤◌, ◌==◌, Bool, not, if◌then◌else◌, List, [], length, slice_index}
use Rattle.lv_bits.specs.Words.{Bits}
use Rattle.lv_bits.specs.Values.{bit}
use Rattle.lv_netlist.specs.declared.node.Node.{Node}
use Rattle.lv_netlist.specs.Net.{Net, width_at}
use Rattle.lv_netlist.specs.Run.{values_of, node_bits, bits_at}

-- the word of node k at these inputs
unfoldable pub word_in : Net → List Bits → ℕ → Bits
word_in net inputs k = bits_at (values_of net [] inputs) k

-- the number of node k at these inputs
unfoldable pub number_in : Net → List Bits → ℕ → ℕ
number_in net inputs k = (word_in net inputs k).value

-- node k isn't 0 at these inputs
unfoldable pub is_on : Net → List Bits → ℕ → Bool
is_on net inputs k = not (number_in net inputs k == 0)

-- the word of a node over those of the net's nodes, at these inputs
abbrev pub node_word : Net → Node → List Bits → Bits
node_word net node inputs = node_bits [] inputs (values_of net [] inputs) node

-- the number of x where c isn't 0, else that of y
abbrev pub chosen_number : Net → ℕ → ℕ → ℕ → List Bits → ℕ
chosen_number net c x y inputs = if is_on net inputs c then number_in net inputs x else number_in net inputs y

-- the same inputs and registers, and more nodes; the earlier ones keep their widths and their words
pub record Extends (old new : Net) : Type 0 where
  pub more : length old.nodes ≤ length new.nodes
  pub inputs : new.inputs ≡ old.inputs
  pub registers : new.registers ≡ old.registers
  pub widths : (k : ℕ) → k < length old.nodes → width_at new.nodes k ≡ width_at old.nodes k
  pub words : (inputs : List Bits) (k : ℕ) → k < length old.nodes → word_in new inputs k ≡ word_in old inputs k

-- a node of this width and of these words
pub record GivesWord (old new : Net) (at w : ℕ) (word : List Bits → Bits) : Type 0 where
  pub extends : Extends old new
  pub within : at < length new.nodes
  pub width : width_at new.nodes at ≡ w
  pub is : (inputs : List Bits) → word_in new inputs at ≡ word inputs

-- a node of this width and of these numbers
pub record GivesNumber (old new : Net) (at w : ℕ) (number : List Bits → ℕ) : Type 0 where
  pub extends : Extends old new
  pub within : at < length new.nodes
  pub width : width_at new.nodes at ≡ w
  pub is : (inputs : List Bits) → number_in new inputs at ≡ number inputs

-- a node of one bit that is 1 exactly where the test is met
pub record GivesTest (old new : Net) (at : ℕ) (test : List Bits → Bool) : Type 0 where
  pub extends : Extends old new
  pub within : at < length new.nodes
  pub width : width_at new.nodes at ≡ 1
  pub is : (inputs : List Bits) → number_in new inputs at ≡ bit (test inputs)
  pub on : (inputs : List Bits) → is_on new inputs at ≡ test inputs

-- n nodes of these widths
pub record AreLike (net : Net) (n : ℕ) (width_of : ℕ → ℕ) (nodes : List ℕ) : Type 0 where
  pub count : length nodes ≡ n
  pub within : (i : ℕ) → i < n → slice_index nodes i < length net.nodes
  pub widths : (i : ℕ) → i < n → width_at net.nodes (slice_index nodes i) ≡ width_of i
