use Rattle.std.proofs.Common.{refl, sym, ◌∙◌, codes}
use Rattle.lv_grammar.specs.Shapes as shapes
use Rattle.lv_grammar.specs.Rules as rules
use Rattle.lv_parser.proofs.Paths.{begin, through, last, refuse_last, to_left, to_right, other, absent, token_read}
use Rattle.lv_parser.proofs.Fronts.{exit}
use Rattle.lv_parser.proofs.statements.arrow.Goals as goal

pub returns-then-is_mark-clause-answer : goal.returns-then-is_mark-clause-answer
returns-then-is_mark-clause-answer c = λ d.
    let e = sym c.is_mark.ensures.answer ∙ c.if-is_mark.true in
    last (to_left (through (begin rules.arrow c.args.at refl)) (other c.args.tokens.now.text c.args.tokens.now.list (rules.mark (codes "<=")) c.args.at (shapes.mark (codes "=")) refl e))
    (token_read d (shapes.mark (codes "=")) c.args.at e)

pub returns-in_err-end-clause-answer : goal.returns-in_err-end-clause-answer
returns-in_err-end-clause-answer c = λ d.
    let o = absent c.args.tokens.now.text c.args.tokens.now.list rules.equals c.args.at (shapes.mark (codes "=")) refl (sym c.is_mark.ensures.answer ∙ c.if-is_mark.false) in
    exit _ c.from_residual.ensures.1 (refuse_last (to_right (through (begin rules.arrow c.args.at refl)) o) (c.in_err-end.ensures.answer d))

pub returns-in_ok-end-clause-answer : goal.returns-in_ok-end-clause-answer
returns-in_ok-end-clause-answer c = λ d.
    let o = absent c.args.tokens.now.text c.args.tokens.now.list rules.equals c.args.at (shapes.mark (codes "=")) refl (sym c.is_mark.ensures.answer ∙ c.if-is_mark.false) in
    last (to_right (through (begin rules.arrow c.args.at refl)) o) (c.in_ok-end.ensures.answer d)
