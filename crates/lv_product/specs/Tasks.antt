-- What the type of a task keeps.
use Rattle.std.specs.Prelude.{◌≡◌, ℕ, ◌<◌, ◌≤◌, List, [], ◌∷◌, length, All}
use Rattle.lv_model.specs.Stepper.{IsOfState, IsOfInput}
use Rattle.lv_netlist.specs.Net.{Net}
use Rattle.lv_netlist.specs.Stepping.{stepper_of, node_value}
use Rattle.lv_unroll.specs.declared.rows.Port.{Port}
use Rattle.lv_unroll.specs.Entries.{IsPort, entry_length}
use Rattle.lv_product.specs.declared.task.Candidate.{Candidate}
use Rattle.lv_product.specs.declared.task.Candidate.TheVariants.{Eq, When, Each, Aligned}

-- a node of the graph whose number is the same under all inputs
abbrev pub IsStateNode : Net → ℕ → Type 0
IsStateNode net k = (k < length net.nodes) × IsOfState (stepper_of net) (node_value net k)

-- a node of the graph whose number is the same in all states
abbrev pub IsInputNode : Net → ℕ → Type 0
IsInputNode net k = (k < length net.nodes) × IsOfInput (stepper_of net) (node_value net k)

-- the nodes that a candidate reads
abbrev pub nodes_of : Candidate → List ℕ
nodes_of (Eq e) = e ∷ []
nodes_of (When guard e) = guard ∷ e ∷ []
nodes_of (Each p) = p ∷ []
nodes_of Aligned = []

abbrev pub IsCandidate : Net → Candidate → Type 0
IsCandidate net c = All (IsStateNode net) (nodes_of c)

-- what the type of a task keeps
pub record IsTask {T : Type 0} (graph : Net) (ports : List Port) (attacker assume equal each : List ℕ) (candidates : List Candidate) (texts : List T)
    (lookahead : ℕ) : Type 0 where
  pub some_ports : 1 ≤ length ports
  pub few_ports : length ports ≤ 4
  pub ports_are : All (IsPort (length graph.nodes) (entry_length ports)) ports
  pub attacker_is : All (λ k. k < length graph.nodes) attacker
  pub assume_is : All (IsInputNode graph) assume
  pub equal_is : All (IsStateNode graph) equal
  pub each_is : All (IsStateNode graph) each
  pub candidates_are : All (IsCandidate graph) candidates
  pub texts_are : length texts ≡ length candidates
  pub near : lookahead ≤ 32
