use Rattle.std.proofs.Common.{rules, ◌≡◌, ◌∷◌, ◌++◌, [], ℕ, List, IfOk, MatchOption, sym, ◌∙◌, ap, subst, IsTrue}
use Rattle.lv_ast.specs.declared.stmt.Target.{Target}
use Rattle.lv_ast.specs.declared.stmt.Target.TheVariants as t
use Rattle.lv_ast.specs.declared.stmt.Stmt.{Stmt}
use Rattle.lv_ast.specs.declared.stmt.Stmt.TheVariants as b
use Rattle.lv_first.specs.FirstForm.{IsAssignment}
use Rattle.lv_first.specs.Signals.{IsNext}
use Rattle.lv_first.proofs.next.assign_target.Goals as goal

pub returns-else-not-is_empty : goal.returns-else-not-is_empty
returns-else-not-is_empty c =
    let Rs = c.args.signals.now.registers in
    let Is = c.args.signals.now.inputs in
    let empty : IsTrue c.is_empty.result = search rules in
    let e : c.args.target.now ≡ t.Name c.in-Name.path [] = c.in-Name.is ∙ ap (λ z. t.Name c.in-Name.path z) (c.is_empty.ensures.0 empty) in
    subst (λ (z : Target). IfOk c.assign_to.result (λ o. MatchOption o
    ((body : List Stmt) (place : ℕ) → IsNext Rs Is body c.args.next → IsAssignment Rs (Rs ++ Is) (b.Later z c.args.value.now place) → ⊥)
    (λ new. (body : List Stmt) (place : ℕ) → IsNext Rs Is body c.args.next → IsNext Rs Is (body ++ b.Later z c.args.value.now place ∷ []) new))) (sym e) c.assign_to.ensures
