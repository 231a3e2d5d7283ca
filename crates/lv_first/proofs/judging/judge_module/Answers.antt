use Rattle.std.proofs.Common.{◌≡◌, true, sym, subst}
use Rattle.lv_first.specs.declared.observed.ObserverTrees.{ObserverTrees}
use Rattle.lv_first.specs.FirstContract.{trees_of}
use Rattle.lv_first.specs.Signals.{IsPrepared}
use Rattle.lv_first.specs.FirstForm.{IsFirstForm}
use Rattle.lv_first.specs.Verdicts.{not_of_form}
use Rattle.lv_first.proofs.Others.{is_none}
use Rattle.lv_first.proofs.Lookaheads.{proved_at, unproved_at}
use Rattle.lv_first.proofs.Verdicts.{verdict_yes, verdict_no}
use Rattle.lv_first.proofs.judging.judge_module.Goals as goal

pub returns-in_default : goal.returns-in_default
returns-in_default c =
    let none = rw (is_none _ c.in_default.not-Some) at c.in_ok-prepared.ensures in
    not_of_form (λ form. none (subst (λ (t : ObserverTrees). IsFirstForm c.args.design.now c.args.contract.now.top c.args.contract.now.clock t) (sym c.in_ok-trees.ensures) form))

pub returns-then-accepted : goal.returns-then-accepted
returns-then-accepted c =
    let h = rw c.in-Some.is at c.in_ok-prepared.ensures in
    let k = subst (λ (t : ObserverTrees). IsPrepared c.args.design.now c.args.contract.now.top c.args.contract.now.clock t c.in-Some.prepared.signals.registers c.in-Some.prepared.problem) c.in_ok-trees.ensures h in
    proved_at _ _ _ _ _ _ c.requires (verdict_yes c.args.contract.now.top c.args.contract.now.clock c.args.design.now (trees_of c.args.contract.now c.args.port.now) c.in-Some.prepared.signals.registers c.in-Some.prepared.problem k (c.in_ok-accepted.ensures.0 c.if-accepted.true))

pub returns : goal.returns
returns c =
    let h = rw c.in-Some.is at c.in_ok-prepared.ensures in
    let k = subst (λ (t : ObserverTrees). IsPrepared c.args.design.now c.args.contract.now.top c.args.contract.now.clock t c.in-Some.prepared.signals.registers c.in-Some.prepared.problem) c.in_ok-trees.ensures h in
    unproved_at _ _ _ _ _ c.requires (verdict_no c.args.contract.now.top c.args.contract.now.clock c.args.design.now (trees_of c.args.contract.now c.args.port.now) c.in-Some.prepared.signals.registers c.in-Some.prepared.problem k
    (λ both. let e : c.in_ok-accepted.accepted ≡ true = c.in_ok-accepted.ensures.1 both in let f = c.if-accepted.false in cc))
