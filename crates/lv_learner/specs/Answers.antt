-- What a learner answers, and when.
use Rattle.std.specs.Prelude.{ℕ, ◌*◌, ◌^◌, ◌<◌, List, []}
use Rattle.lv_clauses.specs.Sets.{SetValue}
use Rattle.lv_clauses.specs.Sizes.{IsFew}
use Rattle.lv_clauses.specs.Derivations.{Step as Line}
use Rattle.lv_clauses.specs.Decided.{IsSpent}
use Rattle.lv_clauses.specs.declared.line.Spent.{Spent}
use Rattle.lv_cert.specs.declared.cert.Cert.{Cert}
use Rattle.lv_solver.specs.Solving.{IsRefuted}
use Rattle.lv_model.specs.Machine.{Safe, IsGreatest, Implies}
use Rattle.lv_netlist.specs.Queries.{free_bits}
use Rattle.lv_product.specs.declared.task.Task.{Task}
use Rattle.lv_product.specs.declared.task.Pair.{Pair}
use Rattle.lv_product.specs.declared.task.Query.{Query}
use Rattle.lv_product.specs.declared.task.Query.TheVariants.{Initial, Allowed, Base, Step, Imply}
use Rattle.lv_product.specs.Queries.{task_machine, FitsKept}
use Rattle.lv_learner.specs.declared.answers.Sets.{Sets}
use Rattle.lv_learner.specs.declared.answers.Learnt.{Learnt}
use Rattle.lv_learner.specs.declared.answers.Learnt.TheVariants as l
use Rattle.lv_learner.specs.declared.ask.Found.{Found}
use Rattle.lv_learner.specs.declared.ask.Found.TheVariants as f
use Rattle.lv_learner.specs.Meeting.{CanBeMet, Meets, Stands, HasAllInductive}
use Rattle.lv_learner.specs.Cuts.{AreInitialValues, AreAllowedValues}

-- the set stands for the query with the list, and the lines refute it within the budget
pub record IsRefutedFor (task : Task) (s : List ℕ) (q : Query) (budget : ℕ) (set : SetValue) (lines : List Line) : Type 0 where
  pub stands : Stands set task s q
  pub few : IsFew set
  pub refuted : IsRefuted set budget lines

-- the budget is below what is always enough; the set stands for the query with the list, and the lines are spent on it
pub record IsSpentFor (task : Task) (s : List ℕ) (q : Query) (budget : ℕ) (set : SetValue) (lines : List Line) : Type 0 where
  pub below : budget < 2 * 3 ^ free_bits task.graph task.lookahead
  pub stands : Stands set task s q
  pub spent : IsSpent budget set lines

-- what is found for a query: a pair that meets it, a refutation, or a spent log
abbrev pub IsFound : Task → List ℕ → Query → ℕ → Found → Type 0
IsFound task s q budget (f.Met pair) = Meets task s q pair
IsFound task s q budget (f.Unmet spent) = IsRefutedFor task s q budget spent.set spent.log
IsFound task s q budget (f.Short spent) = IsSpentFor task s q budget spent.set spent.log

-- there is an initial pair and an allowed input
pub record IsPossible (task : Task) : Type 0 where
  pub initial : CanBeMet task [] Initial
  pub allowed : CanBeMet task [] Allowed

-- there are an initial pair and an allowed input; the list is the greatest and implies, so the machine is safe; the certificate shows it against the sets
pub record IsAccepted (task : Task) (budget : ℕ) (cert : Cert) (sets : Sets) : Type 0 where
  pub possible : IsPossible task
  pub safe : Safe (task_machine task) task.lookahead
  pub greatest : IsGreatest (task_machine task) task.lookahead cert.kept.items
  pub implies : Implies (task_machine task) task.lookahead cert.kept.items
  pub initial : AreInitialValues task cert.left.items cert.right.items
  pub allowed : AreAllowedValues task cert.input.items
  pub base : IsRefutedFor task cert.kept.items Base budget sets.base cert.base
  pub step : IsRefutedFor task cert.kept.items Step budget sets.step cert.step
  pub imply : IsRefutedFor task cert.kept.items Imply budget sets.imply cert.imply

-- the list is the greatest and doesn't imply, as the pair shows
pub record IsUnproved (task : Task) (s : List ℕ) (pair : Pair) : Type 0 where
  pub possible : IsPossible task
  pub greatest : IsGreatest (task_machine task) task.lookahead s
  pub meets : Meets task s Imply pair
  pub unimplied : Implies (task_machine task) task.lookahead s → ⊥

-- there is no initial pair, or there is one and no allowed input; the set that stands for the query is refuted
abbrev pub IsEmpty : Task → ℕ → Query → Spent → Type 0
IsEmpty task budget Initial spent = (CanBeMet task [] Initial → ⊥) × IsRefutedFor task [] Initial budget spent.set spent.log
IsEmpty task budget Allowed spent = CanBeMet task [] Initial × (CanBeMet task [] Allowed → ⊥) × IsRefutedFor task [] Allowed budget spent.set spent.log
IsEmpty task budget _ spent = ⊥

-- the log is spent on a set that stands for the query with a list of candidates that has all members of each inductive one
pub record IsShort (task : Task) (budget : ℕ) (q : Query) (spent : Spent) : Type 0 where
  pub list : List ℕ
  pub fits : FitsKept task list
  pub above : HasAllInductive task list
  pub spent_is : IsSpentFor task list q budget spent.set spent.log

-- what is answered of a task, with its cause
abbrev pub IsLearnt : Task → ℕ → Learnt → Type 0
IsLearnt task budget (l.Accepted cert sets) = IsAccepted task budget cert sets
IsLearnt task budget (l.Unproved kept pair) = IsUnproved task kept.numbers.items pair
IsLearnt task budget (l.Empty q spent) = IsEmpty task budget q spent
IsLearnt task budget (l.Budget q spent) = IsShort task budget q spent
