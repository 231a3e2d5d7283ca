-- A net of inputs alone, and the nodes of a query's words.
use Rattle.std.specs.Prelude.{◌≡◌, ℕ, zero, suc, ◌+◌, ◌<◌, List, [], ◌∷◌, length, map, take, slice_index}
use Rattle.std.specs.List.{range_with_len}
use Rattle.lv_bits.specs.Words.{Bits}
use Rattle.lv_netlist.specs.Net.{Net, IsWidth, width_at}
use Rattle.lv_netlist.specs.Run.{bits_at}
use Rattle.lv_netlist.specs.Queries.{port_widths}
use Rattle.lv_unroll.specs.declared.copies.Nodes.{Nodes}
use Rattle.lv_unroll.specs.Wires.{word_in}

-- widths of 1 to 128 bits
abbrev pub AreWidths : List ℕ → Type 0
AreWidths widths = (i : ℕ) → i < length widths → IsWidth (slice_index widths i)

-- the first n inputs, and nothing else: input k is node k
pub record OpensTo (widths : List ℕ) (n : ℕ) (net : Net) : Type 0 where
  pub count : length net.nodes ≡ n
  pub registers : net.registers ≡ []
  pub ports : port_widths net ≡ take n widths
  pub widths_are : (k : ℕ) → k < n → width_at net.nodes k ≡ slice_index widths k
  pub words : (words : List Bits) (k : ℕ) → k < n → word_in net words k ≡ bits_at words k

-- an input of each of these widths, and nothing else
abbrev pub Opens : List ℕ → Net → Type 0
Opens widths net = OpensTo widths (length widths) net

-- runs of nodes: the next begins where the one before ends
abbrev pub ranges : ℕ → ℕ → ℕ → List (List ℕ)
ranges from count zero = []
ranges from count (suc n) = range_with_len from count ∷ ranges (from + count) count n

abbrev pub lists_of : List Nodes → List (List ℕ)
lists_of nodes = map (λ (n : Nodes). n.list.items) nodes
