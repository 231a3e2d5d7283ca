use Rattle.std.proofs.Common.{◌≡◌, ◌++◌, true, subst}
use Rattle.lv_bits.specs.declared.op.Op.TheVariants as o
use Rattle.lv_ast.specs.declared.expr.Expr.{Expr}
use Rattle.lv_first.specs.FirstForm.{scope_of, is_bitwise, IsBitExpr}
use Rattle.lv_first.specs.Formulas.{truth, negated}
use Rattle.lv_first.specs.Signals.{IsJoinedBy}
use Rattle.lv_first.specs.declared.formula.Formula.{Formula}
use Rattle.lv_first.proofs.Joins.{Means, not_means, join_means}
use Rattle.lv_first.proofs.Others.{by_option, unary_parts, binary_parts}
use Rattle.lv_first.proofs.build.+formula_of.Goals as goal

pub returns-in_ok-f-in-Un : goal.returns-in_ok-f-in-Un
returns-in_ok-f-in-Un t c =
    let names = scope_of c.args.signals.now.registers c.args.signals.now.inputs in
    let signals = c.args.signals.now.registers ++ c.args.signals.now.inputs in
    let a = rw c.in-Some.is at c.in_ok-a-in-Un.ensures in
    let m : Means names signals c.in-Un.a (truth c.in-Some.a) = subst (λ (z : Expr). Means names signals z (truth c.in-Some.a)) c.get.ensures a in
    by_option (c.in-Un.op ≡ o.Not → ⊥) (IsBitExpr signals c.args.expr.now → ⊥)
    (λ (f : Formula). (c.in-Un.op ≡ o.Not) × (truth f ≡ negated (truth c.in-Some.a))) (λ (f : Formula). Means names signals c.args.expr.now (truth f))
    (λ h legal. h (unary_parts signals c.args.expr.now c.in-Un.op c.in-Un.a legal c.in-Un.is).0)
    (λ f h. not_means names signals c.in-Un.op c.args.expr.now c.in-Un.a (truth c.in-Some.a) (truth f) c.in-Un.is m h) c.in_ok-f-in-Un.f c.in_ok-f-in-Un.ensures

pub returns-in_ok-f-in-Bin : goal.returns-in_ok-f-in-Bin
returns-in_ok-f-in-Bin t c =
    let names = scope_of c.args.signals.now.registers c.args.signals.now.inputs in
    let signals = c.args.signals.now.registers ++ c.args.signals.now.inputs in
    let a = rw c.in-Some-2.is at c.in_ok-a-in-Bin.ensures in
    let m : Means names signals c.in-Bin.a (truth c.in-Some-2.a) = subst (λ (z : Expr). Means names signals z (truth c.in-Some-2.a)) c.get-in-Bin.ensures a in
    let b = rw c.in-Some-3.is at c.in_ok-b-in-Bin.ensures in
    let n : Means names signals c.in-Bin.b (truth c.in-Some-3.b) = subst (λ (z : Expr). Means names signals z (truth c.in-Some-3.b)) c.get-in-Bin-2.ensures b in
    by_option (is_bitwise c.in-Bin.op ≡ true → ⊥) (IsBitExpr signals c.args.expr.now → ⊥)
    (λ (f : Formula). IsJoinedBy c.in-Bin.op (truth c.in-Some-2.a) (truth c.in-Some-3.b) (truth f)) (λ (f : Formula). Means names signals c.args.expr.now (truth f))
    (λ h legal. h (binary_parts signals c.args.expr.now c.in-Bin.op c.in-Bin.a c.in-Bin.b legal c.in-Bin.is).0)
    (λ f h. join_means names signals c.in-Bin.op c.args.expr.now c.in-Bin.a c.in-Bin.b (truth c.in-Some-2.a) (truth c.in-Some-3.b) (truth f) c.in-Bin.is m n h) c.in_ok-f-in-Bin.f c.in_ok-f-in-Bin.ensures
