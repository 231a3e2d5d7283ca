use Rattle.std.proofs.Common.{ℕ, List, [], subst}
use Rattle.lv_product.specs.declared.task.Task.{Task}
use Rattle.lv_product.specs.declared.task.Query.TheVariants.{Initial, Allowed}
use Rattle.lv_learner.specs.declared.start.Opening.{Opening}
use Rattle.lv_learner.specs.Meeting.{CanBeMet}
use Rattle.lv_learner.specs.Answers.{IsRefutedFor}
use Rattle.lv_learner.specs.Confirming.{IsOpened}
use Rattle.lv_learner.proofs.Asking.{no_more}
use Rattle.lv_learner.proofs.Testing.{met_states, met_input}
use Rattle.lv_learner.proofs.confirming.confirm.Goals as goal

pub start-requires-clause-given : goal.start-requires-clause-given
start-requires-clause-given c = λ e. met_states c.args.task.now c.args.cert.now c.in_ok-failing.failing.states c.requires c.in_ok-failing.ensures.states e

pub start-requires-2-clause-given : goal.start-requires-2-clause-given
start-requires-2-clause-given c = λ e. met_input c.args.task.now c.args.cert.now c.in_ok-failing.failing.input c.requires c.in_ok-failing.ensures.input e

pub returns-in-Empty : goal.returns-in-Empty
returns-in-Empty c =
    let task : Task = c.args.task.now in
    let s : List ℕ = c.in_ok-numbers.numbers.items in
    let spent = c.in-Empty.spent in
    let h : IsRefutedFor task [] Initial c.args.budget spent.set spent.log =
    subst (λ (x : Opening). IsOpened task s Initial c.args.budget c.in_ok-failing.failing.states x) c.in-Empty.is c.in_ok-start.ensures in
    (no_more task [] Initial c.args.budget spent.set spent.log h, h)

pub returns-in-Empty-2 : goal.returns-in-Empty-2
returns-in-Empty-2 c =
    let task : Task = c.args.task.now in
    let s : List ℕ = c.in_ok-numbers.numbers.items in
    let spent = c.in-Empty-2.spent in
    let first : CanBeMet task [] Initial =
    subst (λ (x : Opening). IsOpened task s Initial c.args.budget c.in_ok-failing.failing.states x) c.in-There.is c.in_ok-start.ensures in
    let h : IsRefutedFor task [] Allowed c.args.budget spent.set spent.log =
    subst (λ (x : Opening). IsOpened task s Allowed c.args.budget c.in_ok-failing.failing.input x) c.in-Empty-2.is c.in_ok-start-2.ensures in
    (first, no_more task [] Allowed c.args.budget spent.set spent.log h, h)
