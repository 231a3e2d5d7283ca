use Rattle.std.proofs.Common.{ℕ, ◌≡◌, ◌-◌, ◌<◌, ◌≤◌, length, subst, sym, ◌∙◌, arith}
use Rattle.lv_contract.specs.Expressions.{IsExpression, IsNoExpression}
use Rattle.lv_contract.proofs.Expressions.{ended, failed, deep, free_text, expression}
use Rattle.lv_contract.proofs.expression.whole.Goals as goal

same : (k : ℕ) → k - 0 ≡ k
same k = omega arith

pub returns-then-end-len : goal.returns-then-end-len
returns-then-end-len c =
    let text = c.args.tokens.now.text in
    let tokens = c.args.tokens.now.list in
    let h = c.in-Ok.ensures in
    let l : c.in-Ok.end < length tokens = omega (arith, c.if-end-len.true, c.len.ensures) in
    subst (IsNoExpression text) (sym c.place_of.ensures) (ended text tokens c.requires c.in-Ok.end _ (same c.in-Ok.end) h.1.1.0 h.1.1.1 l)

pub returns-in-Some : goal.returns-in-Some
returns-in-Some c =
    let text = c.args.tokens.now.text in
    let tokens = c.args.tokens.now.list in
    let h = c.in-Ok.ensures in
    let l : length tokens ≤ c.in-Ok.end = omega (arith, c.if-end-len.false, c.len.ensures) in
    free_text text tokens c.requires c.in-Ok.end _ (same c.in-Ok.end) l h.1.1.0 h.1.1.1 c.in-Ok.expr h.1.1.2 c.in-Some.place (sym c.free_place.ensures ∙ c.in-Some.is)

pub returns-in-None : goal.returns-in-None
returns-in-None c =
    let text = c.args.tokens.now.text in
    let tokens = c.args.tokens.now.list in
    let h = c.in-Ok.ensures in
    let l : length tokens ≤ c.in-Ok.end = omega (arith, c.if-end-len.false, c.len.ensures) in
    subst (IsExpression text) (sym c.new.ensures)
    (expression text tokens c.requires c.in-Ok.end _ (same c.in-Ok.end) l h.1.1.0 h.1.1.1 h.1.0 h.1.1.3 h.1.2 c.in-Ok.expr h.1.1.2 (sym c.free_place.ensures ∙ c.in-None.is))

pub returns-in-Err-Syntax : goal.returns-in-Err-Syntax
returns-in-Err-Syntax c =
    let text = c.args.tokens.now.text in
    let tokens = c.args.tokens.now.list in
    subst (IsNoExpression text) (sym c.place_of-in-Err-Syntax.ensures) (failed text tokens c.requires c.in-Err-Syntax.number _ (same c.in-Err-Syntax.number) (rw c.in-Err-Syntax.field-0-is at c.in-Err-Syntax.ensures).1)

pub returns-in-Err-Depth : goal.returns-in-Err-Depth
returns-in-Err-Depth c =
    let text = c.args.tokens.now.text in
    let tokens = c.args.tokens.now.list in
    subst (IsNoExpression text) (sym c.place_of-in-Err-Depth.ensures) (deep text tokens c.requires c.in-Err-Depth.number _ (same c.in-Err-Depth.number) (rw c.in-Err-Depth.field-0-is at c.in-Err-Depth.ensures).1)
