-- The answer with its certificate.
use Rattle.std.proofs.Common.{◌≡◌, ℕ, List, [], get_or, sym, subst}
use Rattle.lv_cert.specs.declared.cert.Cert.{Cert}
use Rattle.lv_model.specs.Machine.{IsGreatest, Implies}
use Rattle.lv_netlist.specs.declared.graph.Inputs.{Inputs}
use Rattle.lv_product.specs.declared.task.Task.{Task}
use Rattle.lv_product.specs.declared.task.Pair.{Pair}
use Rattle.lv_product.specs.declared.task.Query.TheVariants.{Initial, Allowed, Base, Step, Imply}
use Rattle.lv_product.specs.Queries.{task_machine, FitsKept}
use Rattle.lv_learner.specs.declared.answers.Sets.{Sets}
use Rattle.lv_learner.specs.Meeting.{CanBeMet, Meets, HasAllInductive}
use Rattle.lv_learner.specs.Cuts.{AreInitialValues, AreAllowedValues}
use Rattle.lv_learner.specs.Answers.{IsAccepted, IsUnproved, IsRefutedFor}
use Rattle.lv_learner.proofs.Asking.{no_more}
use Rattle.lv_learner.proofs.Words.{values_in}
use Rattle.lv_learner.proofs.Starting.{initial_values, allowed_values}
use Rattle.lv_learner.proofs.Concluding.{greatest, implies, safe, can, unimplied}

pub accepted : (task : Task) (budget : ℕ) (cert : Cert) (sets : Sets) (first allowed : Pair) (x : Inputs) →
    let s = cert.kept.items in
    FitsKept task s → HasAllInductive task s →
    IsRefutedFor task s Base budget sets.base cert.base → IsRefutedFor task s Step budget sets.step cert.step → IsRefutedFor task s Imply budget sets.imply cert.imply →
    Meets task [] Initial first → Meets task [] Allowed allowed →
    cert.left.items ≡ values_in first.left.items → cert.right.items ≡ values_in first.right.items →
    x ≡ get_or allowed.inputs.items 0 x → cert.input.items ≡ values_in x.words.items →
    IsAccepted task budget cert sets
accepted task budget cert sets first allowed x fits above base step imply fm am el er ex ei =
    let s : List ℕ = cert.kept.items in
    let g : IsGreatest (task_machine task) task.lookahead s =
    greatest task s fits above (no_more task s Base budget sets.base cert.base base) (no_more task s Step budget sets.step cert.step step) in
    let i : Implies (task_machine task) task.lookahead s = implies task s (no_more task s Imply budget sets.imply cert.imply imply) in
    record {
      possible = record { initial = can task [] Initial first fm; allowed = can task [] Allowed allowed am };
      safe = safe task s g.inductive i;
      greatest = g;
      implies = i;
      initial =
          subst (λ (v : List ℕ). AreInitialValues task v cert.right.items) (sym el)
          (subst (λ (v : List ℕ). AreInitialValues task (values_in first.left.items) v) (sym er)
          (initial_values task [] first task.fits.equal_is task.fits.each_is fm));
      allowed =
          subst (AreAllowedValues task) (sym ei)
          (allowed_values task [] allowed.left.items allowed.right.items allowed.inputs.items allowed.aligned x task.fits.assume_is am ex);
      base = base;
      step = step;
      imply = imply;
    }

pub unproved : (task : Task) (s : List ℕ) (pair first allowed : Pair) → FitsKept task s → HasAllInductive task s →
    (CanBeMet task s Base → ⊥) → (CanBeMet task s Step → ⊥) →
    Meets task [] Initial first → Meets task [] Allowed allowed → Meets task s Imply pair → IsUnproved task s pair
unproved task s pair first allowed fits above base step fm am h = record {
  possible = record { initial = can task [] Initial first fm; allowed = can task [] Allowed allowed am };
  greatest = greatest task s fits above base step;
  meets = h;
  unimplied = unimplied task s pair h;
}
