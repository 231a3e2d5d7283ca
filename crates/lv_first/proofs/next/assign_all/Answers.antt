use Rattle.std.proofs.Common.{◌≡◌, ◌+◌, ◌∷◌, ◌++◌, [], List, sym, ◌∙◌, ap, subst, take}
use Rattle.std.proofs.lemmas.List.{take_more}
use Rattle.lv_ast.specs.declared.stmt.Stmt.{Stmt}
use Rattle.lv_first.specs.Signals.{IsNext}
use Rattle.lv_first.specs.FirstForm.{IsAssignment}
use Rattle.lv_first.proofs.Others.{all_at}
use Rattle.lv_first.proofs.next.assign_all.Goals as goal

pub loop-stmt-preserved : goal.loop-stmt-preserved
loop-stmt-preserved c = λ start.
    let body = c.args.body.now in
    let k = c.loop-stmt.stmt-index in
    let e : take (k + 1) body ≡ take k body ++ c.stmt-item.result ∷ [] =
    take_more body k c.stmt-item.result c.loop-stmt-test.true ∙ ap (λ z. take k body ++ z ∷ []) (sym c.stmt-item.is) in
    let step = rw c.in-Some.is at c.in_ok-after.ensures in
    subst (λ (z : List Stmt). IsNext c.args.signals.now.registers c.args.signals.now.inputs z c.in-Some.after) (sym e) (step (take k body) (c.loop-stmt.invariant start))

pub returns-in-None : goal.returns-in-None
returns-in-None c = λ start all.
    let Rs = c.args.signals.now.registers in
    let Is = c.args.signals.now.inputs in
    let none = rw c.in-None.is at c.in_ok-after.ensures in
    none (take c.loop-stmt.stmt-index c.args.body.now) (c.loop-stmt.invariant start)
    (all_at (IsAssignment Rs (Rs ++ Is)) c.args.body.now c.loop-stmt.stmt-index c.stmt-item.result c.loop-stmt-test.true c.stmt-item.is all)
