-- What the answers of the solver say of a query.
use Rattle.std.proofs.Common.{◌≡◌, ℕ, ◌+◌, ◌-◌, ◌*◌, ◌==◌, not, Bool, List, length, take, drop, sym, ◌∙◌, ap, subst}
use Rattle.lv_bits.specs.Words.{Bits}
use Rattle.lv_bits.specs.Digits.{words_from}
use Rattle.lv_clauses.specs.Sets.{SetValue}
use Rattle.lv_clauses.specs.Sizes.{IsFew}
use Rattle.lv_clauses.specs.Derivations.{Step as Line, IsRefutation}
use Rattle.lv_clauses.specs.Values.{IsModel, values_of}
use Rattle.lv_blast.specs.Encoding.{IsEncoding, input_widths}
use Rattle.lv_netlist.specs.Net.{Net}
use Rattle.lv_netlist.specs.Run.{bits_at}
use Rattle.lv_netlist.specs.Fits.{FitsInputs}
use Rattle.lv_blast.proofs.Words.{words_fit}
use Rattle.lv_netlist.specs.Queries.{IsGoalOf, AreMeeting, pieces, left_of, right_of, cycles_in, aligned_in}
use Rattle.lv_netlist.specs.Stepping.{stepper_of}
use Rattle.lv_model.specs.Meeting.{IsMetBy, cycles_of}
use Rattle.lv_model.specs.Stepper.{Stepper, unrolled}
use Rattle.lv_solver.specs.Solving.{IsAnswer, IsRefuted}
use Rattle.lv_solver.specs.declared.solve_set.Answer.{Answer}
use Rattle.lv_solver.specs.declared.solve_set.Answer.TheVariants.{Model, Refuted, Budget}
use Rattle.lv_product.specs.declared.task.Task.{Task}
use Rattle.lv_product.specs.declared.task.Pair.{Pair}
use Rattle.lv_product.specs.declared.task.Query.{Query}
use Rattle.lv_product.specs.Pairs.{ProductValue, IsPairOf, words_of}
use Rattle.lv_product.specs.Queries.{task_machine, observers_of, asked}
use Rattle.lv_stands.specs.Stands.{query_words}
use Rattle.lv_stands.proofs.Standing.{stands, unmet, below_enough}
use Rattle.lv_learner.specs.Meeting.{CanBeMet, Meets, Stands}
use Rattle.lv_learner.specs.Answers.{IsRefutedFor, IsSpentFor}

-- the goal of this net is 1 exactly where the query is met
abbrev pub IsGoal : Task → List ℕ → Query → Net → ℕ → Type 0
IsGoal task s q net goal = IsGoalOf task.graph (observers_of task) task.lookahead s (asked q) net goal

pub stands_of : (task : Task) (s : List ℕ) (q : Query) (net net' : Net) (goal goal' : ℕ) (set : SetValue) →
    IsGoal task s q net goal → net' ≡ net → goal' ≡ goal → IsEncoding net' goal' set → Stands set task s q
stands_of task s q net net' goal goal' set p e f enc =
    stands task.graph (observers_of task) task.lookahead s (asked q) net goal set p
    (subst (λ (n : Net). IsEncoding n goal set) e (subst (λ (g : ℕ). IsEncoding net' g set) f enc))

pub refuted_of : (task : Task) (s : List ℕ) (q : Query) (budget : ℕ) (set set' given : SetValue) (answer : Answer) (log : List Line) →
    Stands set task s q → IsFew set → set' ≡ set → given ≡ set → IsAnswer set' budget answer → answer ≡ Refuted log → IsRefutedFor task s q budget given log
refuted_of task s q budget set set' given answer log st few e f is eq =
    record {
      stands = subst (λ (x : SetValue). Stands x task s q) (sym f) st;
      few = subst IsFew (sym f) few;
      refuted = subst (λ (x : SetValue). IsAnswer x budget (Refuted log)) (e ∙ sym f) (subst (λ (x : Answer). IsAnswer set' budget x) eq is);
    }

pub spent_of : (task : Task) (s : List ℕ) (q : Query) (budget : ℕ) (set set' given : SetValue) (answer : Answer) (log : List Line) →
    Stands set task s q → set' ≡ set → given ≡ set → IsAnswer set' budget answer → answer ≡ Budget log → IsSpentFor task s q budget given log
spent_of task s q budget set set' given answer log st e f is eq =
    let st' : Stands given task s q = subst (λ (x : SetValue). Stands x task s q) (sym f) st in
    let a : IsAnswer given budget (Budget log) =
    subst (λ (x : SetValue). IsAnswer x budget (Budget log)) (e ∙ sym f) (subst (λ (x : Answer). IsAnswer set' budget x) eq is) in
    record { below = below_enough given task.graph (observers_of task) task.lookahead s (asked q) budget st' a.1; stands = st'; spent = a.0 }

pub model_of : (budget : ℕ) (set set' : SetValue) (answer : Answer) (found : List Bool) → set' ≡ set → IsAnswer set' budget answer → answer ≡ Model found → IsModel set found
model_of budget set set' answer found e is eq = subst (λ (x : SetValue). IsModel x found) e (subst (λ (x : Answer). IsAnswer set' budget x) eq is)

pub fits_of : (net net' : Net) (values : ℕ → Bool) (widths : List ℕ) (words words' : List Bits) → net' ≡ net → widths ≡ input_widths net' →
    words ≡ words_from values 1 widths → words' ≡ words → FitsInputs net words'
fits_of net net' values widths words words' e f g h =
    subst (FitsInputs net) (sym (h ∙ (g ∙ ap (words_from values 1) (f ∙ ap input_widths e)))) (words_fit net values)

-- the parts of words that meet a query meet it
from_parts : (task : Task) (s : List ℕ) (q : Query) (words l r : List Bits) (is : List (List Bits)) (a : Bool) →
    let n = cycles_of (asked q) task.lookahead in
    l ≡ left_of task.graph words → r ≡ right_of task.graph words → is ≡ cycles_in task.graph n words → a ≡ aligned_in task.graph n words →
    AreMeeting task.graph (observers_of task) task.lookahead s (asked q) words →
    IsMetBy (task_machine task) task.lookahead s (asked q) (unrolled (stepper_of task.graph) l is) (unrolled (stepper_of task.graph) r is) a
from_parts task s q words l r is a el er ei ea h =
    let n : ℕ = cycles_of (asked q) task.lookahead in
    let net : Net = task.graph in
    let t : Stepper (List Bits) (List Bits) = stepper_of net in
    let P : List Bits → List Bits → List (List Bits) → Bool → Type 0 = λ l r is a.
    IsMetBy (task_machine task) task.lookahead s (asked q) (unrolled t l is) (unrolled t r is) a in
    subst (λ (x : List Bits). P x r is a) (sym el)
    (subst (λ (x : List Bits). P (left_of net words) x is a) (sym er)
    (subst (λ (x : List (List Bits)). P (left_of net words) (right_of net words) x a) (sym ei)
    (subst (λ (x : Bool). P (left_of net words) (right_of net words) (cycles_in net n words) x) (sym ea) h)))

aligned_same : (p : ProductValue) (words : List Bits) (registers inputs cycles : ℕ) → p.registers ≡ registers → p.inputs ≡ inputs → p.cycles ≡ cycles →
    not ((bits_at words (p.registers + p.registers + p.cycles * p.inputs)).value == 0) ≡ not ((bits_at words (registers + registers + cycles * inputs)).value == 0)
aligned_same p words registers inputs cycles er ei ec =
    let at : p.registers + p.registers + p.cycles * p.inputs ≡ registers + registers + cycles * inputs = cc in
    ap (λ (k : ℕ). not ((bits_at words k).value == 0)) at

pub meets_of :
    (task : Task) (s : List ℕ) (q : Query) (p : ProductValue) (net' : Net) (set : SetValue) (found : List Bool) (widths : List ℕ) (words words' : List Bits) (pair : Pair) →
    IsGoal task s q p.net p.goal → p.registers ≡ length task.graph.registers → p.inputs ≡ length task.graph.inputs →
    p.cycles ≡ cycles_of (asked q) task.lookahead → Stands set task s q → IsModel set found → net' ≡ p.net → widths ≡ input_widths net' →
    words ≡ words_from (values_of found) 1 widths → words' ≡ words → IsPairOf p.registers p.inputs p.cycles words' pair → Meets task s q pair
meets_of task s q p net' set found widths words words' pair product er ei ec st model e f g h is =
    let net : Net = task.graph in
    let n : ℕ = cycles_of (asked q) task.lookahead in
    let w : words' ≡ query_words net task.lookahead (asked q) (values_of found) =
    h ∙ (g ∙ ap (words_from (values_of found) 1) (f ∙ (ap input_widths e ∙ product.widths))) in
    let are : AreMeeting net (observers_of task) task.lookahead s (asked q) words' =
    subst (AreMeeting net (observers_of task) task.lookahead s (asked q)) (sym w) (st.meets (values_of found) model.satisfies) in
    from_parts task s q words' pair.left.items pair.right.items (words_of pair.inputs.items) pair.aligned
    (is.left ∙ ap (λ (k : ℕ). take k words') er)
    (is.right ∙ ap (λ (k : ℕ). take k (drop k words')) er)
    (is.each ∙
    (ap (λ (k : ℕ). pieces p.inputs p.cycles (drop (k + k) words')) er ∙
    (ap (λ (k : ℕ). pieces k p.cycles (drop (length net.registers + length net.registers) words')) ei ∙
    ap (λ (k : ℕ). cycles_in net k words') ec)))
    (is.aligned ∙ aligned_same p words' (length net.registers) (length net.inputs) n er ei ec)
    are

-- no query can be met whose set is refuted
pub unmet_by : (task : Task) (s : List ℕ) (q : Query) (set : SetValue) (lines : List Line) → Stands set task s q → IsRefutation set lines → CanBeMet task s q → ⊥
unmet_by task s q set lines st refuted can = unmet set task.graph (observers_of task) task.lookahead s (asked q) lines st refuted can

pub refutation_of : (set : SetValue) (budget : ℕ) (lines : List Line) → IsRefuted set budget lines → IsRefutation set lines
refutation_of set budget lines h =
    record { derivation = h.derivation; empty = (length lines - 1, h.ends.0, h.ends.2, h.ends.3) }

pub no_more : (task : Task) (s : List ℕ) (q : Query) (budget : ℕ) (set : SetValue) (lines : List Line) → IsRefutedFor task s q budget set lines → CanBeMet task s q → ⊥
no_more task s q budget set lines h = unmet_by task s q set lines h.stands (refutation_of set budget lines h.refuted)
