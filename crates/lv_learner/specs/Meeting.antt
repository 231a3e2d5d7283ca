-- When a query of a task can be met, and when a pair meets it.
use Rattle.std.specs.Prelude.{ℕ, List}
use Rattle.lv_bits.specs.Words.{Bits}
use Rattle.lv_model.specs.Machine.{IsMet, IsInductive, IsWithin}
use Rattle.lv_model.specs.Meeting.{IsMetBy}
use Rattle.lv_model.specs.Stepper.{unrolled}
use Rattle.lv_netlist.specs.Stepping.{GraphCycle, stepper_of}
use Rattle.lv_clauses.specs.Sets.{SetValue}
use Rattle.lv_stands.specs.Stands.{StandsFor}
use Rattle.lv_product.specs.declared.task.Task.{Task}
use Rattle.lv_product.specs.declared.task.Pair.{Pair}
use Rattle.lv_product.specs.declared.task.Query.{Query}
use Rattle.lv_product.specs.Pairs.{words_of}
use Rattle.lv_product.specs.Queries.{task_machine, observers_of, asked}

-- some two runs meet the query, for the list s
abbrev pub CanBeMet : Task → List ℕ → Query → Type 0
CanBeMet task s q = IsMet (task_machine task) task.lookahead s (asked q)

-- the run from a state under the pair's inputs
abbrev pub run_from : Task → List Bits → Pair → List GraphCycle
run_from task state pair = unrolled (stepper_of task.graph) state (words_of pair.inputs.items)

-- the pair's two runs and its truth value meet the query
abbrev pub Meets : Task → List ℕ → Query → Pair → Type 0
Meets task s q pair =
    IsMetBy (task_machine task) task.lookahead s (asked q) (run_from task pair.left.items pair) (run_from task pair.right.items pair) pair.aligned

-- the set stands for the query, for the list s
abbrev pub Stands : SetValue → Task → List ℕ → Query → Type 0
Stands set task s q = StandsFor set task.graph (observers_of task) task.lookahead s (asked q)

-- each inductive list is within s
abbrev pub HasAllInductive : Task → List ℕ → Type 0
HasAllInductive task s = (t : List ℕ) → IsInductive (task_machine task) task.lookahead t → IsWithin t s
