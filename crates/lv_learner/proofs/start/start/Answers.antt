use Rattle.std.proofs.Common.{ℕ, List, subst}
use Rattle.lv_product.specs.declared.task.Task.{Task}
use Rattle.lv_learner.specs.declared.ask.Found.{Found}
use Rattle.lv_learner.specs.Answers.{IsFound}
use Rattle.lv_learner.proofs.Deciding.{opening_can, opening_refuted}
use Rattle.lv_learner.proofs.start.start.Goals as goal

pub returns-in-Met : goal.returns-in-Met
returns-in-Met c =
    let task : Task = c.args.task.now in
    let s : List ℕ = c.args.kept.now.numbers.items in
    opening_can task s c.args.query c.in-Met.field-0 c.requires.opening
    (subst (λ (f : Found). IsFound task s c.args.query c.args.budget f) c.in-Met.is c.in_ok-ask.ensures)

pub returns-in-Unmet : goal.returns-in-Unmet
returns-in-Unmet c =
    let task : Task = c.args.task.now in
    let s : List ℕ = c.args.kept.now.numbers.items in
    opening_refuted task s c.args.query c.args.budget c.in-Unmet.spent.set c.in-Unmet.spent.log c.requires.opening
    (subst (λ (f : Found). IsFound task s c.args.query c.args.budget f) c.in-Unmet.is c.in_ok-ask.ensures)
