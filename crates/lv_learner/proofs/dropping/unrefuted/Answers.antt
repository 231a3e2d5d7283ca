use Rattle.std.proofs.Common.{◌≡◌, ℕ, ◌&&◌, nat_eq, List, sym, subst, refl, arith}
use Rattle.std.specs.List.{filter}
use Rattle.lv_bits.specs.Words.{Bits}
use Rattle.lv_netlist.specs.Net.{Net}
use Rattle.lv_netlist.specs.Fits.{FitsInputs}
use Rattle.lv_netlist.specs.Run.{values_of, next_state}
use Rattle.lv_product.specs.declared.task.Task.{Task}
use Rattle.lv_product.specs.declared.task.Kept.{Kept}
use Rattle.lv_product.specs.declared.task.Pair.{Pair}
use Rattle.lv_product.specs.declared.task.Query.{Query}
use Rattle.lv_product.specs.declared.task.Query.TheVariants.{Initial, Allowed, Base, Step, Imply}
use Rattle.lv_learner.specs.Meeting.{Meets}
use Rattle.lv_product.specs.Values.{holds_at}
use Rattle.lv_learner.specs.Dropping.{IsDropped, IsRound, retired}
use Rattle.lv_learner.proofs.Refuting.{Needs, step_needs, base_needs, step_dropped, base_dropped, if_ok}
use Rattle.lv_learner.proofs.dropping.unrefuted.Goals as goal

base_of : (q : Query) → IsRound q → (q ≡ Step → ⊥) → q ≡ Base
base_of Initial h n = absurd h
base_of Allowed h n = absurd h
base_of Base h n = refl
base_of Step h n = absurd (n refl)
base_of Imply h n = absurd h

of_step : (task : Task) (s : List ℕ) (q : Query) (pair : Pair) → q ≡ Step → Meets task s q pair → Needs task.graph pair.left.items pair.right.items pair.inputs.items 2
of_step task s q pair e h = step_needs task s pair.left.items pair.right.items pair.inputs.items pair.aligned (subst (λ (x : Query). Meets task s x pair) e h)

of_base : (task : Task) (s : List ℕ) (q : Query) (pair : Pair) → q ≡ Base → Meets task s q pair → Needs task.graph pair.left.items pair.right.items pair.inputs.items 1
of_base task s q pair e h = base_needs task s pair.left.items pair.right.items pair.inputs.items pair.aligned (subst (λ (x : Query). Meets task s x pair) e h)

pub held_second-requires-clause-left : goal.held_second-requires-clause-left
held_second-requires-clause-left c = (of_step c.args.task.now c.args.kept.now.numbers.items c.args.query c.args.pair.now c.in-Step.is c.requires.meets).left_fits

pub held_second-requires-clause-right : goal.held_second-requires-clause-right
held_second-requires-clause-right c = (of_step c.args.task.now c.args.kept.now.numbers.items c.args.query c.args.pair.now c.in-Step.is c.requires.meets).right_fits

pub held_second-requires-clause-first : goal.held_second-requires-clause-first
held_second-requires-clause-first c =
    let n = of_step c.args.task.now c.args.kept.now.numbers.items c.args.query c.args.pair.now c.in-Step.is c.requires.meets in
    subst (FitsInputs c.args.task.now.graph) (sym c.as_slice.ensures.value) (n.first c.index.result.now c.index.ensures)

pub held_second-requires-clause-second : goal.held_second-requires-clause-second
held_second-requires-clause-second c =
    let n = of_step c.args.task.now c.args.kept.now.numbers.items c.args.query c.args.pair.now c.in-Step.is c.requires.meets in
    subst (FitsInputs c.args.task.now.graph) (sym c.as_slice-in-Step.ensures.value) (n.second c.index-in-Step.result.now (omega arith) c.index-in-Step.ensures)

pub held_first-requires : goal.held_first-requires
held_first-requires c =
    let n = of_base c.args.task.now c.args.kept.now.numbers.items c.args.query c.args.pair.now (base_of c.args.query c.requires.round c.in_default.not-Step) c.requires.meets in
    record {
      kept = c.requires.kept;
      left = n.left_fits;
      right = n.right_fits;
      first = subst (FitsInputs c.args.task.now.graph) (sym c.as_slice-in_default.ensures.value) (n.first c.index-in_default.result.now c.index-in_default.ensures);
    }

pub returns-in-Step : goal.returns-in-Step
returns-in-Step c =
    let task : Task = c.args.task.now in
    let s : List ℕ = c.args.kept.now.numbers.items in
    let pair : Pair = c.args.pair.now in
    let net : Net = task.graph in
    let result_for : List Bits → List Bits → List ℕ = λ x y.
    filter (holds_at task.candidates.items (values_of net (next_state net (values_of net pair.left.items x)) y) (values_of net (next_state net (values_of net pair.right.items x)) y)
    (pair.aligned && nat_eq (retired task.ports.items (values_of net pair.left.items x)) (retired task.ports.items (values_of net pair.right.items x)))) s in
    let d : IsDropped task s (result_for c.index.result.now.words.items c.index-in-Step.result.now.words.items) =
    step_dropped task s pair.left.items pair.right.items pair.inputs.items pair.aligned c.index.result.now c.index-in-Step.result.now c.requires.kept
    (subst (λ (x : Query). Meets task s x pair) c.in-Step.is c.requires.meets) c.index.ensures c.index-in-Step.ensures in
    let d' : IsDropped task s (result_for c.as_slice.result.now c.as_slice-in-Step.result.now) =
    subst (λ (x : List Bits). IsDropped task s (result_for x c.as_slice-in-Step.result.now)) (sym c.as_slice.ensures.value)
    (subst (λ (y : List Bits). IsDropped task s (result_for c.index.result.now.words.items y)) (sym c.as_slice-in-Step.ensures.value) d) in
    if_ok c.held_second.result _ (λ (k : Kept). IsDropped task s k.numbers.items) (λ (k : Kept) e. subst (IsDropped task s) (sym e) d') c.held_second.ensures

pub returns-in_default : goal.returns-in_default
returns-in_default c =
    let task : Task = c.args.task.now in
    let s : List ℕ = c.args.kept.now.numbers.items in
    let pair : Pair = c.args.pair.now in
    let net : Net = task.graph in
    let result_for : List Bits → List ℕ = λ x. filter (holds_at task.candidates.items (values_of net pair.left.items x) (values_of net pair.right.items x) pair.aligned) s in
    let e : c.args.query ≡ Base = base_of c.args.query c.requires.round c.in_default.not-Step in
    let d : IsDropped task s (result_for c.index-in_default.result.now.words.items) =
    base_dropped task s pair.left.items pair.right.items pair.inputs.items pair.aligned c.index-in_default.result.now c.requires.kept
    (subst (λ (x : Query). Meets task s x pair) e c.requires.meets) c.index-in_default.ensures in
    let d' : IsDropped task s (result_for c.as_slice-in_default.result.now) = subst (λ (x : List Bits). IsDropped task s (result_for x)) (sym c.as_slice-in_default.ensures.value) d in
    if_ok c.held_first.result _ (λ (k : Kept). IsDropped task s k.numbers.items) (λ (k : Kept) e. subst (IsDropped task s) (sym e) d') c.held_first.ensures
