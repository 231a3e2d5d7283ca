use Rattle.std.proofs.Common.{refl, sym, ◌∙◌, codes}
use Rattle.lv_grammar.specs.Shapes as shapes
use Rattle.lv_grammar.specs.Rules as rules
use Rattle.lv_parser.proofs.Paths.{begin, through, to_left, to_right, other, absent}
use Rattle.lv_parser.proofs.Carried.{carried}
use Rattle.lv_parser.proofs.declarations.direction.Goals as goal

pub returns-then-is_word-clause-answer : goal.returns-then-is_word-clause-answer
returns-then-is_word-clause-answer c = λ d.
    let p = other c.args.tokens.now.text c.args.tokens.now.list rules.output c.args.at (shapes.word (codes "input")) refl (sym c.is_word.ensures.answer ∙ c.if-is_word.true) in
    carried (to_left (through (begin rules.direction c.args.at refl)) p) c.input.result (c.input.ensures.answer d)

pub returns-else-is_word-clause-answer : goal.returns-else-is_word-clause-answer
returns-else-is_word-clause-answer c = λ d.
    let p = absent c.args.tokens.now.text c.args.tokens.now.list rules.input c.args.at (shapes.word (codes "input")) refl (sym c.is_word.ensures.answer ∙ c.if-is_word.false) in
    carried (to_right (through (begin rules.direction c.args.at refl)) p) c.output.result (c.output.ensures.answer d)
