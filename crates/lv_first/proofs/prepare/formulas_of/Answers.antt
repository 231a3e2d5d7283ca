use Rattle.std.proofs.Common.{◌≡◌, ◌+◌, ◌∷◌, ◌++◌, [], List, sym, ◌∙◌, ap, subst, take}
use Rattle.std.specs.Prelude.{All}
use Rattle.std.proofs.lemmas.List.{take_more}
use Rattle.lv_ast.specs.declared.expr.Expr.{Expr}
use Rattle.lv_first.specs.declared.formula.Formula.{Formula}
use Rattle.lv_first.specs.FirstForm.{IsBitExpr, scope_of}
use Rattle.lv_first.specs.Signals.{AreBitsOf}
use Rattle.lv_first.proofs.Gathers.{all_more, bits_more}
use Rattle.lv_first.proofs.Others.{all_at}
use Rattle.lv_first.proofs.prepare.formulas_of.Goals as goal

pub loop-expr-preserved : goal.loop-expr-preserved
loop-expr-preserved c =
    let names = scope_of c.args.signals.now.registers c.args.signals.now.inputs in
    let S = c.args.signals.now.registers ++ c.args.signals.now.inputs in
    let xs = c.args.exprs.now in
    let k = c.loop-expr.expr-index in
    let e : take (k + 1) xs ≡ take k xs ++ c.expr-item.result ∷ [] = take_more xs k c.expr-item.result c.loop-expr-test.true ∙ ap (λ z. take k xs ++ z ∷ []) (sym c.expr-item.is) in
    let h = rw c.in-Some.is at c.in_ok-formula.ensures in
    let pushed : c.push.new.self ≡ c.loop-expr.formulas ++ c.in-Some.formula ∷ [] = c.in_ok-push-in-Some.ensures.ok in
    record {
      legal = subst (λ (z : List Expr). All (IsBitExpr S) z) (sym e) (all_more (IsBitExpr S) (take k xs) c.expr-item.result c.loop-expr.invariant.legal h.0);
      meant = subst (λ (z : List Formula). AreBitsOf names S (take (k + 1) xs) z) (sym pushed)
          (subst (λ (z : List Expr). AreBitsOf names S z (c.loop-expr.formulas ++ c.in-Some.formula ∷ [])) (sym e)
          (bits_more names S (take k xs) c.loop-expr.formulas c.expr-item.result c.in-Some.formula c.loop-expr.invariant.meant h.1));
    }

pub returns-in-None : goal.returns-in-None
returns-in-None c = λ all.
    let none = rw c.in-None.is at c.in_ok-formula.ensures in
    none (all_at (IsBitExpr (c.args.signals.now.registers ++ c.args.signals.now.inputs)) c.args.exprs.now c.loop-expr.expr-index c.expr-item.result c.loop-expr-test.true c.expr-item.is all)
