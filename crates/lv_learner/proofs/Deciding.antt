-- What the five queries say of a certificate.
use Rattle.std.proofs.Common.{◌≡◌, ℕ, List, [], subst}
use Rattle.lv_cert.specs.declared.cert.Cert.{Cert}
use Rattle.lv_clauses.specs.Sets.{SetValue}
use Rattle.lv_clauses.specs.Derivations.{Step as Line}
use Rattle.lv_clauses.specs.declared.line.Spent.{Spent}
use Rattle.lv_model.specs.Machine.{IsInductive, Implies}
use Rattle.lv_model.proofs.Queries.{unmet_base, unmet_step}
use Rattle.lv_product.specs.declared.task.Task.{Task}
use Rattle.lv_product.specs.declared.task.Pair.{Pair}
use Rattle.lv_product.specs.declared.task.Query.{Query}
use Rattle.lv_product.specs.declared.task.Query.TheVariants.{Initial, Allowed, Base, Step, Imply}
use Rattle.lv_product.specs.Queries.{task_machine, FitsKept}
use Rattle.lv_learner.specs.Meeting.{CanBeMet, Meets}
use Rattle.lv_learner.specs.Answers.{IsPossible, IsRefutedFor, IsSpentFor}
use Rattle.lv_learner.specs.Confirming.{IsYes, IsNo, IsOpening, IsShortOf, IsCause}
use Rattle.lv_learner.proofs.Starting.{initial_stands, allowed_stands}
use Rattle.lv_learner.proofs.Concluding.{inductive, implies, safe, can, unimplied}

-- ---- Initial and Allowed

pub opening_can : (task : Task) (s : List ℕ) (q : Query) (pair : Pair) → IsOpening q → Meets task s q pair → CanBeMet task [] q
opening_can task s Initial pair o h = can task s Initial pair h
opening_can task s Allowed pair o h = can task s Allowed pair h
opening_can task s Base pair o h = absurd o
opening_can task s Step pair o h = absurd o
opening_can task s Imply pair o h = absurd o

pub opening_refuted : (task : Task) (s : List ℕ) (q : Query) (budget : ℕ) (set : SetValue) (lines : List Line) → IsOpening q →
    IsRefutedFor task s q budget set lines → IsRefutedFor task [] q budget set lines
opening_refuted task s Initial budget set lines o h = record { stands = initial_stands set task s [] h.stands; few = h.few; refuted = h.refuted }
opening_refuted task s Allowed budget set lines o h = record { stands = allowed_stands set task s [] h.stands; few = h.few; refuted = h.refuted }
opening_refuted task s Base budget set lines o h = absurd o
opening_refuted task s Step budget set lines o h = absurd o
opening_refuted task s Imply budget set lines o h = absurd o

-- ---- Base, Step and Imply

pub yes : (task : Task) (s t : List ℕ) → t ≡ s → FitsKept task s → IsPossible task →
    (CanBeMet task t Base → ⊥) → (CanBeMet task t Step → ⊥) → (CanBeMet task t Imply → ⊥) → IsYes task s
yes task s t e fits possible base step imply =
    let never : (q : Query) → (CanBeMet task t q → ⊥) → CanBeMet task s q → ⊥ = λ q. subst (λ (x : List ℕ). CanBeMet task x q → ⊥) e in
    let i : IsInductive (task_machine task) task.lookahead s = inductive task s fits (never Base base) (never Step step) in
    let p : Implies (task_machine task) task.lookahead s = implies task s (never Imply imply) in
    record { possible = possible; inductive = i; implies = p; safe = safe task s i p }

no_base : (task : Task) (s : List ℕ) (pair : Pair) → IsPossible task → Meets task s Base pair → IsNo task s Base pair
no_base task s pair possible h =
    record { possible = possible; meets = h; refuting = λ i. unmet_base (task_machine task) task.lookahead s i (can task s Base pair h) }

no_step : (task : Task) (s : List ℕ) (pair : Pair) → IsPossible task → Meets task s Step pair → IsNo task s Step pair
no_step task s pair possible h =
    record { possible = possible; meets = h; refuting = λ i. unmet_step (task_machine task) task.lookahead s i (can task s Step pair h) }

no_imply : (task : Task) (s : List ℕ) (pair : Pair) → IsPossible task → Meets task s Imply pair → IsNo task s Imply pair
no_imply task s pair possible h = record { possible = possible; meets = h; refuting = unimplied task s pair h }

-- the query is one of a list
abbrev pub IsOfList : Query → Type 0
IsOfList Base = Unit {0}
IsOfList Step = Unit {0}
IsOfList Imply = Unit {0}
IsOfList _ = ⊥

pub refuted_list : (task : Task) (s t : List ℕ) (q : Query) (pair : Pair) → IsOfList q → t ≡ s → IsPossible task → Meets task t q pair → IsNo task s q pair
refuted_list task s t Base pair o e possible h = no_base task s pair possible (subst (λ (x : List ℕ). Meets task x Base pair) e h)
refuted_list task s t Step pair o e possible h = no_step task s pair possible (subst (λ (x : List ℕ). Meets task x Step pair) e h)
refuted_list task s t Imply pair o e possible h = no_imply task s pair possible (subst (λ (x : List ℕ). Meets task x Imply pair) e h)
refuted_list task s t Initial pair o e possible h = absurd o
refuted_list task s t Allowed pair o e possible h = absurd o

pub short_list : (task : Task) (budget : ℕ) (cert : Cert) (t : List ℕ) (q : Query) (k : ℕ) (spent : Spent) → t ≡ cert.kept.items → IsCause task cert q k spent →
    IsSpentFor task t q budget spent.set spent.log → IsShortOf task budget cert q k spent
short_list task budget cert t q k spent e cause h =
    record { spent_is = subst (λ (x : List ℕ). IsSpentFor task x q budget spent.set spent.log) e h; cause = cause }
