use Rattle.std.proofs.Common.{ℕ, List, [], subst}
use Rattle.lv_product.specs.declared.task.Task.{Task}
use Rattle.lv_product.specs.declared.task.Query.TheVariants.{Initial, Allowed}
use Rattle.lv_learner.specs.declared.ask.Found.{Found}
use Rattle.lv_learner.specs.Meeting.{Meets}
use Rattle.lv_learner.specs.Answers.{IsFound, IsRefutedFor, IsSpentFor}
use Rattle.lv_learner.proofs.Asking.{no_more}
use Rattle.lv_learner.proofs.Starting.{initial_any, allowed_any, initial_stands, allowed_stands}
use Rattle.lv_learner.proofs.Concluding.{all_fit, all_above, can}
use Rattle.lv_learner.proofs.learner.learn.Goals as goal

pub ask-requires : goal.ask-requires
ask-requires c = all_fit c.args.task.now c.in_ok-all.all.numbers.items c.in_ok-all.ensures

pub ask-requires-2 : goal.ask-requires-2
ask-requires-2 c = all_fit c.args.task.now c.in_ok-all.all.numbers.items c.in_ok-all.ensures

pub settle-requires-clause-kept : goal.settle-requires-clause-kept
settle-requires-clause-kept c = all_fit c.args.task.now c.in_ok-all.all.numbers.items c.in_ok-all.ensures

pub settle-requires-clause-above : goal.settle-requires-clause-above
settle-requires-clause-above c = all_above c.args.task.now c.in_ok-all.all.numbers.items c.in_ok-all.ensures

pub settle-requires-clause-first : goal.settle-requires-clause-first
settle-requires-clause-first c =
    let task : Task = c.args.task.now in
    let s : List ℕ = c.in_ok-all.all.numbers.items in
    initial_any task s [] c.in-Met.pair (subst (λ (f : Found). IsFound task s Initial c.args.budget f) c.in-Met.is c.in_ok-pair.ensures)

pub settle-requires-clause-allowed : goal.settle-requires-clause-allowed
settle-requires-clause-allowed c =
    let task : Task = c.args.task.now in
    let s : List ℕ = c.in_ok-all.all.numbers.items in
    allowed_any task s [] c.in-Met-2.pair (subst (λ (f : Found). IsFound task s Allowed c.args.budget f) c.in-Met-2.is c.in_ok-pair-2.ensures)

pub returns-in-Unmet : goal.returns-in-Unmet
returns-in-Unmet c =
    let task : Task = c.args.task.now in
    let s : List ℕ = c.in_ok-all.all.numbers.items in
    let spent = c.in-Unmet.spent in
    let h : IsRefutedFor task s Initial c.args.budget spent.set spent.log =
    subst (λ (f : Found). IsFound task s Initial c.args.budget f) c.in-Unmet.is c.in_ok-pair.ensures in
    let g : IsRefutedFor task [] Initial c.args.budget spent.set spent.log = record { stands = initial_stands spent.set task s [] h.stands; few = h.few; refuted = h.refuted } in
    (no_more task [] Initial c.args.budget spent.set spent.log g, g)

pub returns-in-Unmet-2 : goal.returns-in-Unmet-2
returns-in-Unmet-2 c =
    let task : Task = c.args.task.now in
    let s : List ℕ = c.in_ok-all.all.numbers.items in
    let spent = c.in-Unmet-2.spent in
    let m : Meets task s Initial c.in-Met.pair = subst (λ (f : Found). IsFound task s Initial c.args.budget f) c.in-Met.is c.in_ok-pair.ensures in
    let h : IsRefutedFor task s Allowed c.args.budget spent.set spent.log =
    subst (λ (f : Found). IsFound task s Allowed c.args.budget f) c.in-Unmet-2.is c.in_ok-pair-2.ensures in
    let g : IsRefutedFor task [] Allowed c.args.budget spent.set spent.log = record { stands = allowed_stands spent.set task s [] h.stands; few = h.few; refuted = h.refuted } in
    (can task [] Initial c.in-Met.pair (initial_any task s [] c.in-Met.pair m), no_more task [] Allowed c.args.budget spent.set spent.log g, g)

pub returns-in-Short : goal.returns-in-Short
returns-in-Short c =
    let task : Task = c.args.task.now in
    let s : List ℕ = c.in_ok-all.all.numbers.items in
    let h : IsSpentFor task s Initial c.args.budget c.in-Short.spent.set c.in-Short.spent.log =
    subst (λ (f : Found). IsFound task s Initial c.args.budget f) c.in-Short.is c.in_ok-pair.ensures in
    record { list = s; fits = all_fit task s c.in_ok-all.ensures; above = all_above task s c.in_ok-all.ensures; spent_is = h }

pub returns-in-Short-2 : goal.returns-in-Short-2
returns-in-Short-2 c =
    let task : Task = c.args.task.now in
    let s : List ℕ = c.in_ok-all.all.numbers.items in
    let h : IsSpentFor task s Allowed c.args.budget c.in-Short-2.spent.set c.in-Short-2.spent.log =
    subst (λ (f : Found). IsFound task s Allowed c.args.budget f) c.in-Short-2.is c.in_ok-pair-2.ensures in
    record { list = s; fits = all_fit task s c.in_ok-all.ensures; above = all_above task s c.in_ok-all.ensures; spent_is = h }
