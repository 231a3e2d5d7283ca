-- First nodes of the right copy that are shared with the left one.
use Rattle.std.specs.Prelude.{◌≡◌, ℕ, ◌<◌, ◌⊎◌, true, List, [], length, slice_index, slice_get, Some}
use Rattle.lv_bits.specs.Words.{Bits}
use Rattle.lv_bits.specs.Values.{bit}
use Rattle.lv_netlist.specs.declared.node.Node.TheVariants.{Reg}
use Rattle.lv_netlist.specs.Net.{Net, node_at, width_at}
use Rattle.lv_unroll.specs.Wires.{number_in, is_on, Extends}
use Rattle.lv_product.specs.declared.task.Candidate.{Candidate}
use Rattle.lv_product.specs.declared.task.Candidate.TheVariants.{Eq}
use Rattle.lv_product.specs.declared.task.Query.{Query}
use Rattle.lv_product.specs.declared.task.Query.TheVariants.{Initial, Allowed, Base, Step, Imply}

-- the candidate says that register i has one number in both copies
pub record IsEqualityOf (graph : Net) (candidate : Candidate) (i : ℕ) : Type 0 where
  pub node : ℕ
  pub candidate_is : candidate ≡ Eq node
  pub within : node < length graph.nodes
  pub node_is : (node_at graph.nodes node).node ≡ Reg i
  pub register : i < length graph.registers

-- a candidate of the first k numbers says so
pub record IsKeptEqual (graph : Net) (candidates : List Candidate) (numbers : List ℕ) (k i : ℕ) : Type 0 where
  pub place : ℕ
  pub before : place < k
  pub candidate : Candidate
  pub candidate_is : slice_get candidates (slice_index numbers place) ≡ Some candidate
  pub equality : IsEqualityOf graph candidate i

-- each node is the right one, or the left one where the test says that both have one number;
-- the test is met where all registers of the first k numbers have one number in both copies
pub record Shares (graph old new : Net) (candidates : List Candidate) (numbers left right : List ℕ) (k : ℕ) (nodes : List ℕ) (test : ℕ) : Type 0 where
  pub extends : Extends old new
  pub within : test < length new.nodes
  pub width : width_at new.nodes test ≡ 1
  pub is : (inputs : List Bits) → number_in new inputs test ≡ bit (is_on new inputs test)
  pub count : length nodes ≡ length right
  pub each :
      (i : ℕ) → i < length right →
      (slice_index nodes i ≡ slice_index right i) ⊎
      ((slice_index nodes i ≡ slice_index left i) × ((inputs : List Bits) → is_on new inputs test ≡ true →
      number_in old inputs (slice_index left i) ≡ number_in old inputs (slice_index right i)))
  pub met :
      (inputs : List Bits) →
      ((i : ℕ) → IsKeptEqual graph candidates numbers k i → number_in old inputs (slice_index left i) ≡ number_in old inputs (slice_index right i)) →
      is_on new inputs test ≡ true

-- the list of a query at whose first moment all its candidates hold, else none
abbrev pub held_first : Query → List ℕ → List ℕ
held_first Initial s = []
held_first Allowed s = []
held_first Base s = []
held_first Step s = s
held_first Imply s = s
