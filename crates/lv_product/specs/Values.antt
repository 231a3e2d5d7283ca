-- The values of a copy's nodes, and what is tested of those of two copies.
use Rattle.std.specs.Prelude.{◌≡◌, ℕ, ◌<◌, ◌==◌, Bool, false, not, List, length, map, slice_index, slice_get, Option, Some, None}
use Rattle.lv_bits.specs.Words.{Bits}
use Rattle.lv_model.specs.Machine.{Machine}
use Rattle.lv_model.specs.Design.{Design, machine_of, holds_test}
use Rattle.lv_netlist.specs.Net.{Net, width_at}
use Rattle.lv_netlist.specs.Run.{bits_at}
use Rattle.lv_unroll.specs.Wires.{word_in, is_on, Extends, AreLike}
use Rattle.lv_product.specs.declared.task.Task.{Task}
use Rattle.lv_product.specs.declared.task.Candidate.{Candidate}
use Rattle.lv_product.specs.declared.task.Candidate.TheVariants.{Eq, When, Each, Aligned}
use Rattle.lv_product.specs.Queries.{candidate_by, observers_by}

-- the number of node k, where these are the values of all nodes
abbrev pub value_at : ℕ → List Bits → ℕ
value_at k values = (bits_at values k).value

-- the values of the nodes in a cycle, whatever they are
abbrev pub any_values : Design (List Bits)
any_values = record { IsSettled = λ v. Unit {0}; Follows = λ v w. Unit {0}; SameInputs = λ l r. Unit {0} }

-- what a task observes of the values of its nodes
abbrev pub value_machine : Task → Machine (List Bits)
value_machine task = machine_of any_values (observers_by value_at task)

-- the words of the nodes of a table
abbrev pub values_in : Net → List ℕ → List Bits → List Bits
values_in net table inputs = map (word_in net inputs) table

-- a node for each node of the graph, of its width
abbrev pub IsTableOf : Net → Net → List ℕ → Type 0
IsTableOf net graph table = AreLike net (length graph.nodes) (width_at graph.nodes) table

-- nodes of the graph
abbrev pub AreNodes : Net → List ℕ → Type 0
AreNodes graph nodes = (i : ℕ) → i < length nodes → slice_index nodes i < length graph.nodes

-- the node isn't 0
abbrev pub is_met : List Bits → ℕ → Bool
is_met values k = not (value_at k values == 0)

-- the node has one number in both
abbrev pub is_same : List Bits → List Bits → ℕ → Bool
is_same left right k = value_at k left == value_at k right

-- the candidate of this number holds
abbrev pub maybe_test : Option Candidate → List Bits → List Bits → Bool → Bool
maybe_test None l r a = false
maybe_test (Some c) l r a = holds_test (candidate_by value_at c) l r a

abbrev pub holds_at : List Candidate → List Bits → List Bits → Bool → ℕ → Bool
holds_at candidates l r a k = maybe_test (slice_get candidates k) l r a

-- the candidate's nodes are nodes of the graph
abbrev pub ReadsNodes : Net → Candidate → Type 0
ReadsNodes graph (Eq e) = e < length graph.nodes
ReadsNodes graph (When guard e) = (guard < length graph.nodes) × (e < length graph.nodes)
ReadsNodes graph (Each p) = p < length graph.nodes
ReadsNodes graph Aligned = Unit {0}

-- a node that isn't 0 exactly where the test is met
pub record GivesTruth (old new : Net) (at : ℕ) (test : List Bits → Bool) : Type 0 where
  pub extends : Extends old new
  pub within : at < length new.nodes
  pub on : (inputs : List Bits) → is_on new inputs at ≡ test inputs
