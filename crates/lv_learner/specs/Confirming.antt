-- What is answered of a certificate, and when.
use Rattle.std.specs.Prelude.{◌≡◌, ◌≢◌, ℕ, ◌+◌, ◌<◌, Bool, true, false, List, [], length, slice_index, Option, Some, None}
use Rattle.lv_bits.specs.Words.{Bits}
use Rattle.lv_cert.specs.declared.cert.Cert.{Cert}
use Rattle.lv_cert.specs.declared.cert.Shape.{Shape}
use Rattle.lv_check.specs.Answer.{IsFailure}
use Rattle.lv_clauses.specs.Derivations.{Step as Line}
use Rattle.lv_clauses.specs.declared.line.Spent.{Spent}
use Rattle.lv_model.specs.Machine.{Safe, IsInductive, Implies}
use Rattle.lv_netlist.specs.Stepping.{node_value}
use Rattle.lv_product.specs.declared.task.Task.{Task}
use Rattle.lv_product.specs.declared.task.Pair.{Pair}
use Rattle.lv_product.specs.declared.task.Query.{Query}
use Rattle.lv_product.specs.declared.task.Query.TheVariants.{Initial, Allowed, Base, Step, Imply}
use Rattle.lv_product.specs.Queries.{task_machine, FitsKept}
use Rattle.lv_learner.specs.declared.answers.Confirmed.{Confirmed}
use Rattle.lv_learner.specs.declared.answers.Confirmed.TheVariants as v
use Rattle.lv_learner.specs.declared.judge.Judged.{Judged}
use Rattle.lv_learner.specs.declared.judge.Judged.TheVariants as j
use Rattle.lv_learner.specs.declared.start.Opening.{Opening}
use Rattle.lv_learner.specs.declared.start.Opening.TheVariants as t
use Rattle.lv_learner.specs.Meeting.{CanBeMet, Meets}
use Rattle.lv_learner.specs.Cuts.{IsStateOf, IsInputOf, state_of, input_of, cycle, AreInitialValues, AreAllowedValues}
use Rattle.lv_learner.specs.Answers.{IsRefutedFor, IsSpentFor, IsPossible, IsEmpty}

-- numbers of candidates that rise, and one value per register and per input
pub record FitsCert (task : Task) (cert : Cert) : Type 0 where
  pub kept : FitsKept task cert.kept.items
  pub left : length cert.left.items ≡ length task.graph.registers
  pub right : length cert.right.items ≡ length task.graph.registers
  pub input : length cert.input.items ≡ length task.graph.inputs

-- how many candidates, registers and inputs a task has
abbrev pub task_shape : Task → Shape
task_shape task = record {
  candidates = length task.candidates.items;
  registers = length task.graph.registers;
  inputs = length task.graph.inputs;
}

-- the node has one number in both states, or isn't 0 in either, whatever the inputs
abbrev pub IsSameNode : Task → Cert → ℕ → Type 0
IsSameNode task cert n =
    (i : List Bits) → IsInputOf task.graph i →
    node_value task.graph n (cycle (state_of task cert.left.items) i) ≡ node_value task.graph n (cycle (state_of task cert.right.items) i)

abbrev pub IsOnNode : Task → Cert → ℕ → Type 0
IsOnNode task cert n =
    (i : List Bits) → IsInputOf task.graph i →
    (node_value task.graph n (cycle (state_of task cert.left.items) i) ≢ 0) × (node_value task.graph n (cycle (state_of task cert.right.items) i) ≢ 0)

-- the states meet the expression of this place, `equal` before `each`
pub record StatesMeet (task : Task) (cert : Cert) (k : ℕ) : Type 0 where
  pub equal : k < length task.equal.items → IsSameNode task cert (slice_index task.equal.items k)
  pub each : (j : ℕ) → k ≡ length task.equal.items + j → j < length task.each.items → IsOnNode task cert (slice_index task.each.items j)

-- the input meets the assumption of this place, whatever the state
abbrev pub InputMeets : Task → Cert → ℕ → Type 0
InputMeets task cert k =
    (s : List Bits) → IsStateOf task.graph s →
    node_value task.graph (slice_index task.assume.items k) (cycle s (input_of task cert.input.items)) ≢ 0

-- the first expression that isn't met
pub record IsFirstUnmet (IsMet : ℕ → Type 0) (count k : ℕ) : Type 0 where
  pub within : k < count
  pub before : (j : ℕ) → j < k → IsMet j
  pub here : IsMet k → ⊥

-- why the certificate doesn't do for the query: its states or its input at expression k, or its derivation at line k of the same set
abbrev pub IsCause : Task → Cert → Query → ℕ → Spent → Type 0
IsCause task cert Initial k spent = IsFirstUnmet (StatesMeet task cert) (length task.equal.items + length task.each.items) k
IsCause task cert Allowed k spent = IsFirstUnmet (InputMeets task cert) (length task.assume.items) k
IsCause task cert Base k spent = IsFailure spent.set cert.base k
IsCause task cert Step k spent = IsFailure spent.set cert.step k
IsCause task cert Imply k spent = IsFailure spent.set cert.imply k

-- what the pair shows of the list
abbrev pub IsRefuting : Task → List ℕ → Query → Type 0
IsRefuting task s Base = IsInductive (task_machine task) task.lookahead s → ⊥
IsRefuting task s Step = IsInductive (task_machine task) task.lookahead s → ⊥
IsRefuting task s Imply = Implies (task_machine task) task.lookahead s → ⊥
IsRefuting task s _ = ⊥

-- the list is inductive and implies, so the machine is safe
pub record IsYes (task : Task) (s : List ℕ) : Type 0 where
  pub possible : IsPossible task
  pub inductive : IsInductive (task_machine task) task.lookahead s
  pub implies : Implies (task_machine task) task.lookahead s
  pub safe : Safe (task_machine task) task.lookahead

-- the list is not inductive or doesn't imply, as the pair shows
pub record IsNo (task : Task) (s : List ℕ) (q : Query) (pair : Pair) : Type 0 where
  pub possible : IsPossible task
  pub meets : Meets task s q pair
  pub refuting : IsRefuting task s q

-- the log is spent on a set that stands for the query with the certificate's list, and the certificate doesn't do
pub record IsShortOf (task : Task) (budget : ℕ) (cert : Cert) (q : Query) (k : ℕ) (spent : Spent) : Type 0 where
  pub spent_is : IsSpentFor task cert.kept.items q budget spent.set spent.log
  pub cause : IsCause task cert q k spent

-- what is answered of a certificate, with its cause
abbrev pub IsConfirmed : Task → ℕ → Cert → Confirmed → Type 0
IsConfirmed task budget cert v.Yes = IsYes task cert.kept.items
IsConfirmed task budget cert (v.No q pair) = IsNo task cert.kept.items q pair
IsConfirmed task budget cert (v.Empty q spent) = IsEmpty task budget q spent
IsConfirmed task budget cert (v.Budget q k spent) = IsShortOf task budget cert q k spent

-- ---- for the functions below `confirm`

-- what becomes of a query and a derivation: it can't be met, a pair meets it, or the derivation fails at line k and the log is spent
abbrev pub IsJudged : Task → List ℕ → Query → ℕ → List Line → Judged → Type 0
IsJudged task s q budget lines j.Holds = CanBeMet task s q → ⊥
IsJudged task s q budget lines (j.Met pair) = Meets task s q pair
IsJudged task s q budget lines (j.Short k spent) = IsSpentFor task s q budget spent.set spent.log × IsFailure spent.set lines k

-- the first place of the list that doesn't pass the test
abbrev pub IsFirstFailing : (ℕ → Bool) → List ℕ → Option ℕ → Type 0
IsFirstFailing test nodes None = (j : ℕ) → j < length nodes → test (slice_index nodes j) ≡ true
IsFirstFailing test nodes (Some k) =
    (k < length nodes) × ((j : ℕ) → j < k → test (slice_index nodes j) ≡ true) × (test (slice_index nodes k) ≡ false)

-- a place of the first list, of so many entries, else of the second
abbrev pub first_of : Option ℕ → ℕ → Option ℕ → Option ℕ
first_of (Some k) count second = Some k
first_of None count (Some j) = Some (count + j)
first_of None count None = None

-- an initial pair, or the first expression that the states don't meet; an allowed input likewise
abbrev pub IsStatesTest : Task → Cert → Option ℕ → Type 0
IsStatesTest task cert None = AreInitialValues task cert.left.items cert.right.items
IsStatesTest task cert (Some k) = IsFirstUnmet (StatesMeet task cert) (length task.equal.items + length task.each.items) k

abbrev pub IsInputTest : Task → Cert → Option ℕ → Type 0
IsInputTest task cert None = AreAllowedValues task cert.input.items
IsInputTest task cert (Some k) = IsFirstUnmet (InputMeets task cert) (length task.assume.items) k

-- the query is one for an initial pair or an allowed input
abbrev pub IsOpening : Query → Type 0
IsOpening Initial = Unit {0}
IsOpening Allowed = Unit {0}
IsOpening _ = ⊥

-- the query can be met, or its set is refuted, or the log is spent and the certificate fails at k
abbrev pub IsOpened : Task → List ℕ → Query → ℕ → Option ℕ → Opening → Type 0
IsOpened task s q budget unmet t.There = CanBeMet task [] q
IsOpened task s q budget unmet (t.Empty spent) = IsRefutedFor task [] q budget spent.set spent.log
IsOpened task s q budget unmet (t.Short k spent) = IsSpentFor task s q budget spent.set spent.log × (unmet ≡ Some k)
