use Rattle.std.proofs.Common.{ℕ, List, subst}
use Rattle.lv_product.specs.declared.task.Task.{Task}
use Rattle.lv_product.specs.declared.task.Query.TheVariants.{Base, Step, Imply}
use Rattle.lv_learner.specs.declared.judge.Judged.{Judged}
use Rattle.lv_learner.specs.Confirming.{IsJudged}
use Rattle.lv_learner.proofs.Deciding.{yes, refuted_list}
use Rattle.lv_learner.proofs.confirming.confirm_list.Goals as goal

pub returns-in-Met : goal.returns-in-Met
returns-in-Met c =
    let task : Task = c.args.task.now in
    let s : List ℕ = c.args.kept.now.numbers.items in
    refuted_list task c.args.cert.now.kept.items s Base c.in-Met.pair tt c.requires.kept c.requires.possible
    (subst (λ (j : Judged). IsJudged task s Base c.args.budget c.args.cert.now.base j) c.in-Met.is c.in_ok-judge.ensures)

pub returns-in-Met-2 : goal.returns-in-Met-2
returns-in-Met-2 c =
    let task : Task = c.args.task.now in
    let s : List ℕ = c.args.kept.now.numbers.items in
    refuted_list task c.args.cert.now.kept.items s Step c.in-Met-2.pair tt c.requires.kept c.requires.possible
    (subst (λ (j : Judged). IsJudged task s Step c.args.budget c.args.cert.now.step j) c.in-Met-2.is c.in_ok-judge-2.ensures)

pub returns-in-Met-3 : goal.returns-in-Met-3
returns-in-Met-3 c =
    let task : Task = c.args.task.now in
    let s : List ℕ = c.args.kept.now.numbers.items in
    refuted_list task c.args.cert.now.kept.items s Imply c.in-Met-3.pair tt c.requires.kept c.requires.possible
    (subst (λ (j : Judged). IsJudged task s Imply c.args.budget c.args.cert.now.imply j) c.in-Met-3.is c.in_ok-judge-3.ensures)

pub returns-in-Holds-3 : goal.returns-in-Holds-3
returns-in-Holds-3 c =
    let task : Task = c.args.task.now in
    let s : List ℕ = c.args.kept.now.numbers.items in
    yes task c.args.cert.now.kept.items s c.requires.kept c.requires.cert.kept c.requires.possible
    (subst (λ (j : Judged). IsJudged task s Base c.args.budget c.args.cert.now.base j) c.in-Holds.is c.in_ok-judge.ensures)
    (subst (λ (j : Judged). IsJudged task s Step c.args.budget c.args.cert.now.step j) c.in-Holds-2.is c.in_ok-judge-2.ensures)
    (subst (λ (j : Judged). IsJudged task s Imply c.args.budget c.args.cert.now.imply j) c.in-Holds-3.is c.in_ok-judge-3.ensures)
