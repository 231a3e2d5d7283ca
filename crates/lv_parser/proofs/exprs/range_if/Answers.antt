use Rattle.std.proofs.Common.{refl, sym, ◌∙◌, codes}
use Rattle.lv_grammars.specs.Grammar.{perhaps}
use Rattle.lv_grammar.specs.Shapes as shapes
use Rattle.lv_grammar.specs.Rules as rules
use Rattle.lv_parser.proofs.Paths.{begin, last, refuse_last, to_some, to_none, opens, absent}
use Rattle.lv_parser.proofs.Fronts.{exit}
use Rattle.lv_parser.proofs.exprs.range_if.Goals as goal

pub returns-in_err-range-clause-answer : goal.returns-in_err-range-clause-answer
returns-in_err-range-clause-answer c = λ d.
    let o = opens c.args.tokens.now.text c.args.tokens.now.list rules.range c.args.at 0 (shapes.mark (codes "[")) refl (sym c.is_mark.ensures.answer ∙ c.if-is_mark.true) in
    exit _ c.from_residual.ensures.1 (refuse_last (to_some (begin (perhaps rules.range) c.args.at refl) o) (c.in_err-range.ensures.answer d))

pub returns-in_ok-range-clause-answer : goal.returns-in_ok-range-clause-answer
returns-in_ok-range-clause-answer c = λ d.
    let o = opens c.args.tokens.now.text c.args.tokens.now.list rules.range c.args.at 0 (shapes.mark (codes "[")) refl (sym c.is_mark.ensures.answer ∙ c.if-is_mark.true) in
    last (to_some (begin (perhaps rules.range) c.args.at refl) o) (c.in_ok-range.ensures.answer d)

pub returns-else-is_mark-clause-answer : goal.returns-else-is_mark-clause-answer
returns-else-is_mark-clause-answer c = λ d.
    to_none (begin (perhaps rules.range) c.args.at refl)
    (absent c.args.tokens.now.text c.args.tokens.now.list rules.range c.args.at (shapes.mark (codes "[")) refl (sym c.is_mark.ensures.answer ∙ c.if-is_mark.false))
