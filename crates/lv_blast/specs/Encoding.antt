-- What the clauses of a graph's goal say of its inputs.
use Rattle.std.specs.Prelude.{◌≡◌, ℕ, zero, suc, ◌+◌, ◌<◌, ◌≤◌, Bool, false, List, [], ◌∷◌, length, map, None, slice_index_or}
use Rattle.lv_bits.specs.Words.{Bits}
use Rattle.lv_netlist.specs.Net.{Net, width_at, input_at}
use Rattle.lv_netlist.specs.Run.{values_of, bits_at}
use Rattle.lv_clauses.specs.Sets.{SetValue}
use Rattle.lv_clauses.specs.Values.{Satisfies}
use Rattle.lv_clauses.specs.Decided.{IsDecidedBy}
use Rattle.lv_clauses.specs.Sizes.{HasNoEmpty}
use Rattle.lv_aig.specs.declared.edge.Edge.{Edge}
use Rattle.lv_aig.specs.Edges.{Nodes, gate_at}
use Rattle.lv_bits.specs.Digits.{words_from}
use Rattle.lv_circuits.specs.Words.{AllBelow}

-- the widths of the inputs, and their sum
abbrev pub input_widths : Net → List ℕ
input_widths net = map (λ input. input.1) net.inputs

abbrev pub count_bits : List (List ℕ × ℕ) → ℕ
count_bits [] = 0
count_bits (p ∷ ps) = p.1 + count_bits ps

-- the words of the inputs where the variables from 1 on are their bits
abbrev pub input_words : Net → (ℕ → Bool) → List Bits
input_words net values = words_from values 1 (input_widths net)

-- the value of the goal at these inputs
abbrev pub goal_at : Net → ℕ → List Bits → ℕ
goal_at net goal inputs = (bits_at (values_of net [] inputs) goal).value

-- the first variables are the bits of the inputs, decide the set, and satisfy it exactly where the goal is 1
pub record IsEncoding (net : Net) (goal : ℕ) (set : SetValue) : Type 0 where
  pub vars : count_bits net.inputs ≤ set.vars
  pub meets : (values : ℕ → Bool) → Satisfies values set.clauses → goal_at net goal (input_words net values) ≡ 1
  pub met : (values : ℕ → Bool) → goal_at net goal (input_words net values) ≡ 1 → (whole : ℕ → Bool) × (Satisfies whole set.clauses) × ((k : ℕ) → 1 ≤ k → k ≤ count_bits net.inputs → whole k ≡ values k)
  pub decided : IsDecidedBy set (count_bits net.inputs)
  pub no_empty : HasNoEmpty set.clauses

abbrev pub word_at : List (List Edge) → ℕ → List Edge
word_at words k = slice_index_or words k []

-- the first k words have the widths of the first k nodes, and lie in a graph of n nodes
pub record HasWords (net : Net) (k n : ℕ) (words : List (List Edge)) : Type 0 where
  pub count : length words ≡ k
  pub widths : (j : ℕ) → j < k → length (word_at words j) ≡ width_at net.nodes j
  pub below : (j : ℕ) → j < k → AllBelow n (word_at words j)

-- the edges of the n nodes from k on
abbrev pub edges_from : ℕ → ℕ → List Edge
edges_from k zero = []
edges_from k (suc n) = record { node = k; neg = false } ∷ edges_from (k + 1) n

abbrev pub edge_words : ℕ → List (List ℕ × ℕ) → List (List Edge)
edge_words k [] = []
edge_words k (p ∷ ps) = edges_from k p.1 ∷ edge_words (k + p.1) ps

-- no node is a gate
abbrev pub IsOpen : Nodes → Type 0
IsOpen nodes = (k : ℕ) → k < length nodes → gate_at nodes k ≡ None

-- one word per input, of its width
pub record FitsPorts (ports : List (List ℕ × ℕ)) (words : List (List Edge)) : Type 0 where
  pub count : length words ≡ length ports
  pub widths : (i : ℕ) → i < length ports → length (word_at words i) ≡ (input_at ports i).1
