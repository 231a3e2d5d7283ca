use Rattle.std.proofs.Common.{refl, sym, subst}
use Rattle.std.specs.Prelude.{IfOk}
use Rattle.lv_grammar.specs.Shapes as shapes
use Rattle.lv_grammar.specs.Rules as rules
use Rattle.lv_parser.specs.Answers.{Answer, placed_result, GoesOn}
use Rattle.lv_parser.proofs.Definites.{definite_placed, definite_goes, tree_answer}
use Rattle.lv_parser.proofs.exprs.value.Goals as goal

pub returns-clause-answer : goal.returns-clause-answer
returns-clause-answer c = λ d.
    subst (λ r. Answer c.args.tokens.now.text c.args.tokens.now.list d rules.value c.args.at r) (sym c.held.ensures)
    (tree_answer c.args.tokens.now.text c.args.tokens.now.list c.args.at d (rules.expr shapes.value) refl c.read_definite.result
    (definite_placed c.args.tokens.now.text c.args.tokens.now.list c.args.at d c.requires c.read_definite.result c.read_definite.ensures))

pub returns-clause-placed : goal.returns-clause-placed
returns-clause-placed c = λ d.
    subst (λ r. Answer c.args.tokens.now.text c.args.tokens.now.list d (rules.expr shapes.value) c.args.at (placed_result c.args.tokens.now.text c.args.tokens.now.list c.args.at r)) (sym c.held.ensures)
    (definite_placed c.args.tokens.now.text c.args.tokens.now.list c.args.at d c.requires c.read_definite.result c.read_definite.ensures)

pub returns-clause-ahead : goal.returns-clause-ahead
returns-clause-ahead c =
    subst (λ r. IfOk r (λ v. GoesOn c.args.tokens.now.list c.args.at v)) (sym c.held.ensures)
    (definite_goes c.args.tokens.now.text c.args.tokens.now.list c.args.at c.read_definite.result c.requires c.read_definite.ensures)
