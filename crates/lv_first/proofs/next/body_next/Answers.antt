use Rattle.std.proofs.Common.{◌≡◌, ◌∷◌, ◌++◌, [], List, sym, ◌∙◌, ap, subst}
use Rattle.std.specs.Prelude.{None, All}
use Rattle.lv_ast.specs.declared.stmt.Stmt.{Stmt}
use Rattle.lv_ast.specs.declared.stmt.Stmt.TheVariants as b
use Rattle.lv_first.specs.declared.formula.Formula.{Formula}
use Rattle.lv_first.specs.FirstForm.{IsAssignment, IsBody}
use Rattle.lv_first.specs.Signals.{IsNext, IsBodyNext}
use Rattle.lv_first.proofs.Others.{by_ok_option, block_body, single_body}
use Rattle.lv_first.proofs.Items.{body_of_block, body_of_one}
use Rattle.lv_first.proofs.next.body_next.Goals as goal

pub returns-in-None : goal.returns-in-None
returns-in-None c =
    let Rs = c.args.signals.now.registers in
    let Is = c.args.signals.now.inputs in
    let e : c.args.body.now ≡ b.Block None c.as_slice.result.now = c.in-Block.is ∙ ap (λ z. b.Block z c.in-Block.stmts) c.in-None.is ∙ ap (λ z. b.Block None z) (sym c.as_slice.ensures) in
    by_ok_option
    (IsNext Rs Is [] c.args.start → All (IsAssignment Rs (Rs ++ Is)) c.as_slice.result.now → ⊥)
    (IsNext Rs Is [] c.args.start → IsBody Rs (Rs ++ Is) c.args.body.now → ⊥)
    (λ (new : List Formula). IsNext Rs Is [] c.args.start → IsNext Rs Is c.as_slice.result.now new)
    (λ (new : List Formula). IsNext Rs Is [] c.args.start → IsBodyNext Rs Is c.args.body.now new)
    (λ h start legal. h start (block_body Rs (Rs ++ Is) c.args.body.now None c.as_slice.result.now legal e))
    (λ new h start. subst (λ (z : Stmt). IsBodyNext Rs Is z new) (sym e) (body_of_block Rs Is c.as_slice.result.now new (h start)))
    c.assign_all.result c.assign_all.ensures

pub returns-in_default : goal.returns-in_default
returns-in_default c =
    let Rs = c.args.signals.now.registers in
    let Is = c.args.signals.now.inputs in
    by_ok_option
    ((body : List Stmt) → IsNext Rs Is body c.args.start → IsAssignment Rs (Rs ++ Is) c.args.body.now → ⊥)
    (IsNext Rs Is [] c.args.start → IsBody Rs (Rs ++ Is) c.args.body.now → ⊥)
    (λ (new : List Formula). (body : List Stmt) → IsNext Rs Is body c.args.start → IsNext Rs Is (body ++ c.args.body.now ∷ []) new)
    (λ (new : List Formula). IsNext Rs Is [] c.args.start → IsBodyNext Rs Is c.args.body.now new)
    (λ h start legal. h [] start (single_body Rs (Rs ++ Is) c.args.body.now c.in_default.not-Block legal))
    (λ new h start. body_of_one Rs Is c.args.body.now new (h [] start))
    c.assign.result c.assign.ensures
