use Rattle.std.proofs.Common.{◌≡◌, ℕ, suc, ◌+◌, ◌-◌, arith, ap, ◌∙◌}
use Rattle.lv_source.specs.Limits.{expr_nodes}
use Rattle.lv_sizes.specs.Counts.{added, step_nodes}
use Rattle.lv_sizes.proofs.Sums.{spends-node, spends-then, spends-same}
use Rattle.lv_sizes.proofs.NodeLaws as nodes
use Rattle.lv_sizes.proofs.exprs.+exprs.Goals as goal

pub spend_expr-returns-then-left-eq0 : goal.spend_expr-returns-then-left-eq0
spend_expr-returns-then-left-eq0 t c = omega (arith, nodes.nodes-some c.args.expr.now)

pub spend_expr-returns-in-Lit : goal.spend_expr-returns-in-Lit
spend_expr-returns-in-Lit t c = omega (arith, ap expr_nodes c.in-Lit.is ∙ nodes.nodes-Lit _)

pub spend_expr-returns-in-Name : goal.spend_expr-returns-in-Name
spend_expr-returns-in-Name t c = spends-node c.args.left _ _ _ (omega arith) (cc (nodes.nodes-Name c.in-Name.field-0 c.in-Name.selects)) c.spend_selects.ensures

pub spend_expr-returns-in-Un : goal.spend_expr-returns-in-Un
spend_expr-returns-in-Un t c = spends-node c.args.left _ _ _ (omega arith) (cc (nodes.nodes-Un c.in-Un.field-0 c.in-Un.a)) c.spend_expr.ensures

pub spend_expr-returns-in-Bin : goal.spend_expr-returns-in-Bin
spend_expr-returns-in-Bin t c = spends-node c.args.left _ _ _ (omega arith) (cc (nodes.nodes-Bin c.in-Bin.field-0 c.in-Bin.a c.in-Bin.b)) c.spend_both.ensures

pub spend_expr-returns-in-Div : goal.spend_expr-returns-in-Div
spend_expr-returns-in-Div t c = spends-node c.args.left _ _ _ (omega arith) (cc (nodes.nodes-Div c.in-Div.a c.in-Div.b)) c.spend_both-in-Div.ensures

pub spend_expr-returns-in-Rem : goal.spend_expr-returns-in-Rem
spend_expr-returns-in-Rem t c = spends-node c.args.left _ _ _ (omega arith) (cc (nodes.nodes-Rem c.in-Rem.a c.in-Rem.b)) c.spend_both-in-Rem.ensures

pub spend_expr-returns-in-None : goal.spend_expr-returns-in-None
spend_expr-returns-in-None t c =
    let q : expr_nodes c.args.expr.now ≡ suc (expr_nodes c.get-in-Cond.result.now + expr_nodes c.in-Cond.a + expr_nodes c.in-Cond.b) =
    cc (nodes.nodes-Cond c.in-Cond.c c.in-Cond.a c.in-Cond.b) in
    omega (arith, c.in-None.ensures)

pub spend_expr-returns-in-Some : goal.spend_expr-returns-in-Some
spend_expr-returns-in-Some t c =
    let q : expr_nodes c.args.expr.now ≡ suc (expr_nodes c.get-in-Cond.result.now + expr_nodes c.get-in-Some.result.now + expr_nodes c.get-in-Some-2.result.now) =
    cc (nodes.nodes-Cond c.in-Cond.c c.in-Cond.a c.in-Cond.b) in
    spends-node c.args.left (expr_nodes c.args.expr.now)
    (expr_nodes c.get-in-Cond.result.now + (expr_nodes c.get-in-Some.result.now + expr_nodes c.get-in-Some-2.result.now)) _ (omega arith) (omega arith)
    (spends-then (c.args.left - 1) c.in-Some.rest _ _ _ c.in-Some.ensures c.spend_both-in-Some.ensures)

pub spend_expr-returns-in-Cat : goal.spend_expr-returns-in-Cat
spend_expr-returns-in-Cat t c = spends-node c.args.left _ _ _ (omega arith) (cc (nodes.nodes-Cat c.in-Cat.parts)) c.spend_exprs.ensures

pub spend_expr-returns-in-None-spend_expr : goal.spend_expr-returns-in-None-spend_expr
spend_expr-returns-in-None-spend_expr t c =
    let q : expr_nodes c.args.expr.now ≡ suc (expr_nodes c.get-in-Rep.result.now + added expr_nodes c.in-Rep.parts) =
    cc (nodes.nodes-Rep c.in-Rep.count c.in-Rep.parts) in
    omega (arith, c.in-None-spend_expr.ensures)

pub spend_expr-returns-in-Some-spend_expr : goal.spend_expr-returns-in-Some-spend_expr
spend_expr-returns-in-Some-spend_expr t c =
    spends-node c.args.left _ _ _ (omega arith) (cc (nodes.nodes-Rep c.in-Rep.count c.in-Rep.parts))
    (spends-then (c.args.left - 1) c.in-Some-spend_expr.rest _ _ _ c.in-Some-spend_expr.ensures c.spend_exprs-in-Some-spend_expr.ensures)

pub spend_expr-returns-in-Cast : goal.spend_expr-returns-in-Cast
spend_expr-returns-in-Cast t c = spends-node c.args.left _ _ _ (omega arith) (cc (nodes.nodes-Cast c.in-Cast.field-0 c.in-Cast.a)) c.spend_expr-in-Cast.ensures

pub spend_select-returns-in-Bit : goal.spend_select-returns-in-Bit
spend_select-returns-in-Bit t c = spends-same c.args.left _ _ _ (cc (nodes.step-Bit c.in-Bit.a)) c.spend_expr.ensures

pub spend_select-returns-in-Part : goal.spend_select-returns-in-Part
spend_select-returns-in-Part t c = spends-same c.args.left _ _ _ (cc (nodes.step-Part c.in-Part.a c.in-Part.b)) c.spend_both.ensures

pub spend_select-returns-in-Up : goal.spend_select-returns-in-Up
spend_select-returns-in-Up t c = spends-same c.args.left _ _ _ (cc (nodes.step-Up c.in-Up.a c.in-Up.b)) c.spend_both-in-Up.ensures

pub spend_select-returns-in-Down : goal.spend_select-returns-in-Down
spend_select-returns-in-Down t c = spends-same c.args.left _ _ _ (cc (nodes.step-Down c.in-Down.a c.in-Down.b)) c.spend_both-in-Down.ensures
