-- A graph as contracts see it, and what its type keeps.
use Rattle.std.specs.Prelude.{◌≡◌, ◌≢◌, ℕ, ◌+◌, ◌^◌, ◌<◌, ◌≤◌, IsTrue, IsFalse, List, [], ◌∷◌, ◌++◌, length, slice_set, slice_index_or, Option, Some, None}
use Rattle.std.specs.List.{filter_map, range_with_len}
use Rattle.lv_bits.specs.Values.{is_unary, is_apart, result_width}
use Rattle.lv_netlist.specs.declared.node.Node.{Node}
use Rattle.lv_netlist.specs.declared.node.Node.TheVariants.{Input, Reg, Const, Un, Bin, Mux, Slice, Cat, Ext}
use Rattle.lv_netlist.specs.declared.node.Typed.{Typed}
use Rattle.lv_netlist.specs.declared.node.Register.{Register}

-- the nodes with their widths; each input's name and width; each register's name, and its width and next node
pub record Net : Type 0 where
  pub nodes : List Typed
  pub inputs : List (List ℕ × ℕ)
  pub registers : List (List ℕ × Register)

abbrev pub node_at : List Typed → ℕ → Typed
node_at nodes k = slice_index_or nodes k (record { node = Input 0; width = 0 })

abbrev pub width_at : List Typed → ℕ → ℕ
width_at nodes k = (node_at nodes k).width

abbrev pub input_at : List (List ℕ × ℕ) → ℕ → List ℕ × ℕ
input_at inputs i = slice_index_or inputs i ([], 0)

abbrev pub input_name : Net → ℕ → List ℕ
input_name net i = (input_at net.inputs i).0

abbrev pub input_width : Net → ℕ → ℕ
input_width net i = (input_at net.inputs i).1

abbrev pub register_at : List (List ℕ × Register) → ℕ → List ℕ × Register
register_at registers i = slice_index_or registers i ([], record { width = 0; next = None })

abbrev pub register_name : Net → ℕ → List ℕ
register_name net i = (register_at net.registers i).0

abbrev pub register_width : Net → ℕ → ℕ
register_width net i = (register_at net.registers i).1.width

abbrev pub register_next : Net → ℕ → Option ℕ
register_next net i = (register_at net.registers i).1.next

-- the width of a node, by its kind and its operands' widths
abbrev pub node_width : Net → Node → ℕ
node_width net (Input i) = input_width net i
node_width net (Reg i) = register_width net i
node_width net (Const w) = w.width
node_width net (Un op a) = result_width op (width_at net.nodes a)
node_width net (Bin op a b signed) = result_width op (width_at net.nodes a)
node_width net (Mux c a b) = width_at net.nodes a
node_width net (Slice a low width) = width
node_width net (Cat a b) = width_at net.nodes a + width_at net.nodes b
node_width net (Ext a width signed) = width

-- the operands lie below k, and their widths meet the operator's row
abbrev pub IsRight : Net → ℕ → Node → Type 0
IsRight net k (Input i) = i < length net.inputs
IsRight net k (Reg i) = i < length net.registers
IsRight net k (Const w) = Unit {0}
IsRight net k (Un op a) = IsTrue (is_unary op) × (a < k)
IsRight net k (Bin op a b signed) = IsFalse (is_unary op) × (a < k) × (b < k) × (IsFalse (is_apart op) → width_at net.nodes a ≡ width_at net.nodes b)
IsRight net k (Mux c a b) = (c < k) × (a < k) × (b < k) × (width_at net.nodes a ≡ width_at net.nodes b)
IsRight net k (Slice a low width) = (a < k) × (1 ≤ width) × (low + width ≤ width_at net.nodes a)
IsRight net k (Cat a b) = (a < k) × (b < k) × (width_at net.nodes a + width_at net.nodes b ≤ 128)
IsRight net k (Ext a width signed) = (a < k) × (width_at net.nodes a ≤ width) × (width ≤ 128)

-- neither an input nor a register
abbrev pub IsInner : Node → Type 0
IsInner (Input i) = ⊥
IsInner (Reg i) = ⊥
IsInner _ = Unit {0}

abbrev pub IsWidth : ℕ → Type 0
IsWidth width = (1 ≤ width) × (width ≤ 128)

-- no input and no register has the name
pub record IsNew (net : Net) (name : List ℕ) : Type 0 where
  pub among_inputs : (i : ℕ) → i < length net.inputs → input_name net i ≢ name
  pub among_registers : (i : ℕ) → i < length net.registers → register_name net i ≢ name

-- the names of all inputs and registers are distinct
pub record HasNames (net : Net) : Type 0 where
  pub inputs : (i j : ℕ) → i < j → j < length net.inputs → input_name net i ≢ input_name net j
  pub registers : (i j : ℕ) → i < j → j < length net.registers → register_name net i ≢ register_name net j
  pub apart : (i j : ℕ) → i < length net.inputs → j < length net.registers → input_name net i ≢ register_name net j

-- a constant is a word
abbrev pub HoldsWord : Node → Type 0
HoldsWord (Const w) = w.value < 2 ^ w.width
HoldsWord _ = Unit {0}

pub record IsNode (net : Net) (k : ℕ) (typed : Typed) : Type 0 where
  pub right : IsRight net k typed.node
  pub word : HoldsWord typed.node
  pub same : typed.width ≡ node_width net typed.node
  pub width : IsWidth typed.width

pub record IsRegister (net : Net) (register : Register) : Type 0 where
  pub width : IsWidth register.width
  pub next : (m : ℕ) → register.next ≡ Some m → (m < length net.nodes) × (width_at net.nodes m ≡ register.width)

-- the number of the input that the node is
abbrev pub input_of : Node → Option ℕ
input_of (Input i) = Some i
input_of _ = None

-- the number of the register that the node is
abbrev pub register_of : Node → Option ℕ
register_of (Reg i) = Some i
register_of _ = None

abbrev pub input_of_typed : Typed → Option ℕ
input_of_typed typed = input_of typed.node

abbrev pub register_of_typed : Typed → Option ℕ
register_of_typed typed = register_of typed.node

-- what the type of a builder and of a graph keeps
pub record IsNet (net : Net) : Type 0 where
  pub nodes : (k : ℕ) → k < length net.nodes → IsNode net k (node_at net.nodes k)
  pub inputs : (i : ℕ) → i < length net.inputs → IsWidth (input_width net i)
  pub registers : (i : ℕ) → i < length net.registers → IsRegister net (register_at net.registers i).1
  pub names : HasNames net
  -- the inputs 0, 1, .. have one node each, and these stand in that order; so do the registers
  pub input_nodes : filter_map input_of_typed net.nodes ≡ range_with_len 0 (length net.inputs)
  pub register_nodes : filter_map register_of_typed net.nodes ≡ range_with_len 0 (length net.registers)

-- each register has its next node
abbrev pub HasNexts : Net → Type 0
HasNexts net = (i : ℕ) → i < length net.registers → register_next net i ≢ None

-- the nets that calls of a builder lead to
abbrev pub no_nodes : Net
no_nodes = record { nodes = []; inputs = []; registers = [] }

abbrev pub with_node : Net → Typed → Net
with_node net typed = record net { nodes = net.nodes ++ typed ∷ [] }

abbrev pub with_input : Net → List ℕ → ℕ → Net
with_input net name width = record {
  nodes = net.nodes ++ record { node = Input (length net.inputs); width = width } ∷ [];
  inputs = net.inputs ++ (name, width) ∷ [];
  registers = net.registers;
}

abbrev pub with_register : Net → List ℕ → ℕ → Net
with_register net name width = record {
  nodes = net.nodes ++ record { node = Reg (length net.registers); width = width } ∷ [];
  inputs = net.inputs;
  registers = net.registers ++ (name, record { width = width; next = None }) ∷ [];
}

-- m is the next of register i
abbrev pub with_next : Net → ℕ → ℕ → Net
with_next net i m =
    let at = register_at net.registers i in
    record net { registers = slice_set net.registers i (at.0, record at.1 { next = Some m }) }
