-- Nodes that read the registers alone, or the inputs alone.
use Rattle.std.specs.Prelude.{◌≡◌, ℕ, ◌<◌, Bool, true, false, not, ◌&&◌, List, length, slice_index_or}
use Rattle.lv_bits.specs.Words.{Bits}
use Rattle.lv_netlist.specs.declared.node.Node.{Node}
use Rattle.lv_netlist.specs.declared.node.Node.TheVariants.{Input, Reg, Const, Un, Bin, Mux, Slice, Cat, Ext}
use Rattle.lv_netlist.specs.Net.{Net}
use Rattle.lv_netlist.specs.Run.{values_of, bits_at}

abbrev pub marked_at : List Bool → ℕ → Bool
marked_at marks k = slice_index_or marks k false

-- whether the node reads registers alone, or else inputs alone, as far as its operands are marked
abbrev pub is_pure : Bool → List Bool → Node → Bool
is_pure state marks (Input i) = not state
is_pure state marks (Reg i) = state
is_pure state marks (Const w) = true
is_pure state marks (Un op a) = marked_at marks a
is_pure state marks (Bin op a b signed) = marked_at marks a && marked_at marks b
is_pure state marks (Mux c a b) = marked_at marks c && marked_at marks a && marked_at marks b
is_pure state marks (Slice a low width) = marked_at marks a
is_pure state marks (Cat a b) = marked_at marks a && marked_at marks b
is_pure state marks (Ext a width signed) = marked_at marks a

-- the same registers, or else the same inputs
abbrev pub SamePart : Bool → List Bits → List Bits → List Bits → List Bits → Type 0
SamePart true s i z j = s ≡ z
SamePart false s i z j = i ≡ j

-- the node has one word wherever that part is the same
abbrev pub IsPure : Bool → Net → ℕ → Type 0
IsPure state net k = (s i z j : List Bits) → SamePart state s i z j → bits_at (values_of net s i) k ≡ bits_at (values_of net z j) k

-- marks of the first k nodes
pub record AreMarks (state : Bool) (net : Net) (k : ℕ) (marks : List Bool) : Type 0 where
  pub count : length marks ≡ k
  pub are : (a : ℕ) → a < k → marked_at marks a ≡ true → IsPure state net a
