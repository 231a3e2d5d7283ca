-- From what the rounds leave to the answer.
use Rattle.std.proofs.Common.{◌≡◌, ℕ, ◌+◌, ◌<◌, List, length, get_or, sym, subst, arith}
use Rattle.std.specs.Prelude.{All, Contains}
use Rattle.std.specs.List.{range_with_len}
use Rattle.std.proofs.lemmas.List.{length-map}
use Rattle.std.proofs.lemmas.List.FromFn.{length-range_with_len, get_or-range_with_len}
use Rattle.std.proofs.lemmas.List.Elements.{All-contains}
use Rattle.lv_model.specs.Machine.{IsInductive, IsGreatest, IsWithin, Implies, Safe, AreCandidates}
use Rattle.lv_model.specs.Stepper.{stepped}
use Rattle.lv_model.proofs.Decided.{machine_decided}
use Rattle.lv_model.proofs.Meets.{met_from, base_grows}
use Rattle.lv_model.proofs.Queries.{inductive_if_unmet, implies_if_unmet, unmet_imply}
use Rattle.lv_model.proofs.Soundness.{sound}
use Rattle.lv_netlist.specs.Stepping.{stepper_of, node_value}
use Rattle.lv_product.specs.declared.task.Task.{Task}
use Rattle.lv_product.specs.declared.task.Pair.{Pair}
use Rattle.lv_product.specs.declared.task.Query.{Query}
use Rattle.lv_product.specs.declared.task.Query.TheVariants.{Base, Step, Imply}
use Rattle.lv_product.specs.Queries.{task_machine, observers_of, candidate_by, asked, FitsKept}
use Rattle.lv_learner.specs.Meeting.{CanBeMet, Meets, HasAllInductive, run_from}

-- ---- the list of all candidates

rising_range : (a n : ℕ) (k : ℕ) → k + 1 < n → get_or (range_with_len a n) k 0 < get_or (range_with_len a n) (k + 1) 0
rising_range a n k lt = omega (arith, get_or-range_with_len a n k 0 (omega arith), get_or-range_with_len a n (k + 1) 0 lt)

pub all_fit : (task : Task) (s : List ℕ) → s ≡ range_with_len 0 (length task.candidates.items) → FitsKept task s
all_fit task s e =
    let n : ℕ = length task.candidates.items in
    let len : length (range_with_len 0 n) ≡ n = length-range_with_len 0 n in
    subst (FitsKept task) (sym e) (record {
      rising = λ k lt. rising_range 0 n k (omega (arith, len));
      in_range = λ k d lt. omega (arith, get_or-range_with_len 0 n k d (omega (arith, len)), len);
    })

count_same : (task : Task) → (task_machine task).candidates ≡ length task.candidates.items
count_same task = length-map task.candidates.items (candidate_by (node_value task.graph))

pub all_above : (task : Task) (s : List ℕ) → s ≡ range_with_len 0 (length task.candidates.items) → HasAllInductive task s
all_above task s e t inductive k inside =
    let n : ℕ = length task.candidates.items in
    let lt : k < (task_machine task).candidates = All-contains (λ (j : ℕ). j < (task_machine task).candidates) t k inductive.numbers.in_range inside in
    let lt' : k < n = subst (λ (m : ℕ). k < m) (count_same task) lt in
    let len : length (range_with_len 0 n) ≡ n = length-range_with_len 0 n in
    let at : get_or (range_with_len 0 n) k k ≡ 0 + k = get_or-range_with_len 0 n k k lt' in
    let here : Contains (range_with_len 0 n) k = (k, omega (arith, len), omega (arith, at)) in
    subst (λ (xs : List ℕ). Contains xs k) (sym e) here

-- ---- what the queries say of a list

pub inductive : (task : Task) (s : List ℕ) → FitsKept task s → (CanBeMet task s Base → ⊥) → (CanBeMet task s Step → ⊥) → IsInductive (task_machine task) task.lookahead s
inductive task s fits base step =
    let numbers : AreCandidates (task_machine task) s =
    record { rising = fits.rising; in_range = subst (λ (m : ℕ). All (λ (k : ℕ). k < m) s) (sym (count_same task)) fits.in_range } in
    inductive_if_unmet (task_machine task) task.lookahead s (machine_decided (stepped (stepper_of task.graph)) (observers_of task)) numbers base step

pub greatest : (task : Task) (s : List ℕ) → FitsKept task s → HasAllInductive task s → (CanBeMet task s Base → ⊥) → (CanBeMet task s Step → ⊥) →
    IsGreatest (task_machine task) task.lookahead s
greatest task s fits above base step = record { inductive = inductive task s fits base step; above = above }

pub unmet_below : (task : Task) (s t : List ℕ) → IsWithin t s → (CanBeMet task s Base → ⊥) → CanBeMet task t Base → ⊥
unmet_below task s t within never can = never (base_grows (task_machine task) task.lookahead s t within can)

pub implies : (task : Task) (s : List ℕ) → (CanBeMet task s Imply → ⊥) → Implies (task_machine task) task.lookahead s
implies task s never = implies_if_unmet (task_machine task) task.lookahead s never

pub safe : (task : Task) (s : List ℕ) → IsInductive (task_machine task) task.lookahead s → Implies (task_machine task) task.lookahead s → Safe (task_machine task) task.lookahead
safe task s g i = sound (task_machine task) task.lookahead s g i

pub can : (task : Task) (s : List ℕ) (q : Query) (pair : Pair) → Meets task s q pair → CanBeMet task s q
can task s q pair h =
    met_from (task_machine task) task.lookahead s (asked q) (run_from task pair.left.items pair) (run_from task pair.right.items pair) pair.aligned h

pub unimplied : (task : Task) (s : List ℕ) (pair : Pair) → Meets task s Imply pair → Implies (task_machine task) task.lookahead s → ⊥
unimplied task s pair h i = unmet_imply (task_machine task) task.lookahead s i (can task s Imply pair h)
