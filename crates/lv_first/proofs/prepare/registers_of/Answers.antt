use Rattle.std.proofs.Common.{◌≡◌, ◌+◌, ◌∷◌, ◌++◌, [], ℕ, List, sym, ◌∙◌, ap, subst, take}
use Rattle.std.specs.Prelude.{All}
use Rattle.std.proofs.lemmas.List.{take_more}
use Rattle.lv_ast.specs.declared.expr.Expr.{Expr}
use Rattle.lv_first.specs.FirstForm.{IsRegisterName, scope_of}
use Rattle.lv_first.specs.Signals.{AreVariablesOf, IsRegister}
use Rattle.lv_first.proofs.Gathers.{all_more, variables_more}
use Rattle.lv_first.proofs.Others.{all_at}
use Rattle.lv_first.proofs.prepare.registers_of.Goals as goal

pub loop-expr-preserved : goal.loop-expr-preserved
loop-expr-preserved c =
    let Rs = c.args.signals.now.registers in
    let names = scope_of c.args.signals.now.registers c.args.signals.now.inputs in
    let S = c.args.signals.now.registers ++ c.args.signals.now.inputs in
    let xs = c.args.exprs.now in
    let k = c.loop-expr.expr-index in
    let e : take (k + 1) xs ≡ take k xs ++ c.expr-item.result ∷ [] = take_more xs k c.expr-item.result c.loop-expr-test.true ∙ ap (λ z. take k xs ++ z ∷ []) (sym c.expr-item.is) in
    let h : IsRegister Rs c.args.signals.now.inputs c.expr-item.result c.in-Some.k = c.in-Some.ensures in
    let pushed : c.push.new.self ≡ c.loop-expr.numbers ++ c.in-Some.k ∷ [] = c.in_ok-push-in-Some.ensures.ok in
    record {
      legal = subst (λ (z : List Expr). All (IsRegisterName Rs) z) (sym e) (all_more (IsRegisterName Rs) (take k xs) c.expr-item.result c.loop-expr.invariant.legal h.legal);
      meant = subst (λ (z : List ℕ). AreVariablesOf names S (take (k + 1) xs) z) (sym pushed)
          (subst (λ (z : List Expr). AreVariablesOf names S z (c.loop-expr.numbers ++ c.in-Some.k ∷ [])) (sym e)
          (variables_more names S (take k xs) c.loop-expr.numbers c.expr-item.result c.in-Some.k c.loop-expr.invariant.meant h.meant));
    }

pub returns-in-None : goal.returns-in-None
returns-in-None c = λ all.
    c.in-None.ensures (all_at (IsRegisterName c.args.signals.now.registers) c.args.exprs.now c.loop-expr.expr-index c.expr-item.result c.loop-expr-test.true c.expr-item.is all)
