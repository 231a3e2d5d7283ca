use Rattle.std.proofs.Common.{◌≡◌, ◌∷◌, ◌++◌, ◌∙◌, [], ℕ, List, ap, sym, subst}
use Rattle.lv_ast.specs.declared.stmt.Stmt.{Stmt}
use Rattle.lv_ast.specs.declared.stmt.Stmt.TheVariants as b
use Rattle.lv_first.specs.declared.formula.Formula.{Formula}
use Rattle.lv_first.specs.FirstForm.{IsAssignment}
use Rattle.lv_first.specs.Signals.{IsNext}
use Rattle.lv_first.proofs.Others.{by_ok_option}
use Rattle.lv_first.proofs.next.assign.Goals as goal

pub returns-in-Later : goal.returns-in-Later
returns-in-Later c =
    let Rs = c.args.signals.now.registers in
    let Is = c.args.signals.now.inputs in
    let is : c.args.stmt.now ≡ b.Later c.in-Later.target c.get.result.now c.in-Later.field-2 =
    c.in-Later.is ∙ ap (λ v. b.Later c.in-Later.target v c.in-Later.field-2) (sym c.get.ensures) in
    by_ok_option
    ((body : List Stmt) (place : ℕ) → IsNext Rs Is body c.args.next → IsAssignment Rs (Rs ++ Is) (b.Later c.in-Later.target c.get.result.now place) → ⊥)
    ((body : List Stmt) → IsNext Rs Is body c.args.next → IsAssignment Rs (Rs ++ Is) c.args.stmt.now → ⊥)
    (λ (new : List Formula). (body : List Stmt) (place : ℕ) → IsNext Rs Is body c.args.next → IsNext Rs Is (body ++ b.Later c.in-Later.target c.get.result.now place ∷ []) new)
    (λ (new : List Formula). (body : List Stmt) → IsNext Rs Is body c.args.next → IsNext Rs Is (body ++ c.args.stmt.now ∷ []) new)
    (λ h body now legal. h body c.in-Later.field-2 now (subst (λ (s : Stmt). IsAssignment Rs (Rs ++ Is) s) is legal))
    (λ new h body now. subst (λ (s : Stmt). IsNext Rs Is (body ++ s ∷ []) new) (sym is) (h body c.in-Later.field-2 now))
    c.assign_target.result c.assign_target.ensures
