-- A product as contracts see it, and the pair that the words of its inputs are.
use Rattle.std.specs.Prelude.{◌≡◌, ℕ, ◌+◌, ◌*◌, ◌==◌, not, List, map, take, drop}
use Rattle.lv_bits.specs.Words.{Bits}
use Rattle.lv_netlist.specs.Net.{Net}
use Rattle.lv_netlist.specs.Run.{bits_at}
use Rattle.lv_netlist.specs.Queries.{pieces}
use Rattle.lv_netlist.specs.declared.graph.Inputs.{Inputs}
use Rattle.lv_product.specs.declared.task.Pair.{Pair}

-- the graph and its goal, and how many registers, inputs and cycles the query has
pub record ProductValue : Type 0 where
  pub net : Net
  pub goal : ℕ
  pub registers : ℕ
  pub inputs : ℕ
  pub cycles : ℕ

-- the words of each cycle's inputs
abbrev pub words_of : List Inputs → List (List Bits)
words_of inputs = map (λ (i : Inputs). i.words.items) inputs

-- the pair whose words these are, for so many registers, inputs and cycles
pub record IsPairOf (registers inputs cycles : ℕ) (words : List Bits) (pair : Pair) : Type 0 where
  pub left : pair.left.items ≡ take registers words
  pub right : pair.right.items ≡ take registers (drop registers words)
  pub each : words_of pair.inputs.items ≡ pieces inputs cycles (drop (registers + registers) words)
  pub aligned : pair.aligned ≡ not ((bits_at words (registers + registers + cycles * inputs)).value == 0)
