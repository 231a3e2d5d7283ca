-- The machine of a task, and its queries.
use Rattle.std.specs.Prelude.{ℕ, ◌<◌, List, map, length, All}
use Rattle.std.specs.List.Sorted.{IsStrictlyIncreasing}
use Rattle.lv_model.specs.Machine.{Machine, Query as Asked, Initial as AskedInitial, Allowed as AskedAllowed, Base as AskedBase, Step as AskedStep, Imply as AskedImply}
use Rattle.lv_model.specs.Design.{Observers, Port as SeenPort, Candidate as SeenCandidate, Eq as SeenEq, When as SeenWhen, Each as SeenEach, Aligned as SeenAligned}
use Rattle.lv_netlist.specs.Stepping.{GraphCycle, graph_machine, node_value}
use Rattle.lv_unroll.specs.declared.rows.Port.{Port}
use Rattle.lv_product.specs.declared.task.Task.{Task}
use Rattle.lv_product.specs.declared.task.Candidate.{Candidate}
use Rattle.lv_product.specs.declared.task.Candidate.TheVariants.{Eq, When, Each, Aligned}
use Rattle.lv_product.specs.declared.task.Query.{Query}
use Rattle.lv_product.specs.declared.task.Query.TheVariants.{Initial, Allowed, Base, Step, Imply}

-- what is observed, where `number k` gives the number of node k
abbrev pub port_by : {V : Type 0} → (ℕ → V → ℕ) → Port → SeenPort V
port_by number p = record { retire = number p.retire; contract = map number p.contract.items }

abbrev pub candidate_by : {V : Type 0} → (ℕ → V → ℕ) → Candidate → SeenCandidate V
candidate_by number (Eq e) = SeenEq (number e)
candidate_by number (When guard e) = SeenWhen (number guard) (number e)
candidate_by number (Each p) = SeenEach (number p)
candidate_by number Aligned = SeenAligned

abbrev pub observers_by : {V : Type 0} → (ℕ → V → ℕ) → Task → Observers V
observers_by number task =
    record {
      ports = map (port_by number) task.ports.items;
      attacker = map number task.attacker.items;
      assume = map number task.assume.items;
      equal = map number task.equal.items;
      each = map number task.each.items;
      candidates = map (candidate_by number) task.candidates.items;
    }

-- the observers of a task's cycles
abbrev pub observers_of : Task → Observers GraphCycle
observers_of task = observers_by (node_value task.graph) task

abbrev pub task_machine : Task → Machine GraphCycle
task_machine task = graph_machine task.graph (observers_of task)

-- the query of the machine
abbrev pub asked : Query → Asked
asked Initial = AskedInitial
asked Allowed = AskedAllowed
asked Base = AskedBase
asked Step = AskedStep
asked Imply = AskedImply

-- the numbers rise, and each is that of a candidate
pub record FitsKept (task : Task) (s : List ℕ) : Type 0 where
  pub rising : IsStrictlyIncreasing s
  pub in_range : All (λ k. k < length task.candidates.items) s
