use Rattle.std.proofs.Common.{refl, sym, subst}
use Rattle.std.specs.Prelude.{IfOk}
use Rattle.lv_grammar.specs.Shapes as shapes
use Rattle.lv_grammar.specs.Rules as rules
use Rattle.lv_parser.specs.Answers.{Answer, GoesOn}
use Rattle.lv_parser.proofs.Definites.{expr_placed, expr_goes, tree_answer}
use Rattle.lv_parser.proofs.exprs.label.Goals as goal

pub returns-then-wild-clause-answer : goal.returns-then-wild-clause-answer
returns-then-wild-clause-answer c = λ d.
    subst (λ w. Answer c.args.tokens.now.text c.args.tokens.now.list d (rules.label w) c.args.at c.read_expr.result) (sym c.if-wild.true)
    (tree_answer c.args.tokens.now.text c.args.tokens.now.list c.args.at d (rules.expr shapes.label) refl c.read_expr.result
    (expr_placed c.args.tokens.now.text c.args.tokens.now.list c.args.at d c.requires c.read_expr.result c.read_expr.ensures))

pub returns-then-wild-clause-ahead : goal.returns-then-wild-clause-ahead
returns-then-wild-clause-ahead c = expr_goes c.args.tokens.now.text c.args.tokens.now.list c.args.at c.read_expr.result c.requires c.read_expr.ensures

pub returns-else-wild-clause-answer : goal.returns-else-wild-clause-answer
returns-else-wild-clause-answer c = λ d.
    subst (λ w. Answer c.args.tokens.now.text c.args.tokens.now.list d (rules.label w) c.args.at c.unheld.result) (sym c.if-wild.false)
    (subst (λ r. Answer c.args.tokens.now.text c.args.tokens.now.list d rules.value c.args.at r) (sym c.unheld.ensures) (c.value.ensures.answer d))

pub returns-else-wild-clause-ahead : goal.returns-else-wild-clause-ahead
returns-else-wild-clause-ahead c =
    subst (λ r. IfOk r (λ v. GoesOn c.args.tokens.now.list c.args.at v)) (sym c.unheld.ensures) c.value.ensures.ahead
