use Rattle.std.proofs.Common.{refl, sym, ◌∙◌, codes}
use Rattle.lv_grammar.specs.Shapes as shapes
use Rattle.lv_grammar.specs.Rules as rules
use Rattle.lv_parser.proofs.Paths.{begin, through, then, last, refuse, to_some, to_none, opens, absent, token_read}
use Rattle.lv_parser.proofs.Fronts.{exit}
use Rattle.lv_parser.proofs.declarations.input.Goals as goal

pub returns-in_err-wire-clause-answer : goal.returns-in_err-wire-clause-answer
returns-in_err-wire-clause-answer c = λ d. exit _ c.from_residual.ensures.1 (refuse (through (begin rules.input c.args.at refl)) (c.in_err-wire.ensures.answer d) refl)

pub returns-then-is_word-clause-answer : goal.returns-then-is_word-clause-answer
returns-then-is_word-clause-answer c = λ d.
    let w1 = then (through (begin rules.input c.args.at refl)) (c.in_ok-wire.ensures.answer d) in
    let n = sym c.is_word.ensures.answer ∙ c.if-is_word.true in
    let o = opens c.args.tokens.now.text c.args.tokens.now.list (rules.word (codes "wire")) c.in_ok-wire.wire 0 (shapes.word (codes "wire")) refl n in
    last (to_some w1 o) (token_read d (shapes.word (codes "wire")) c.in_ok-wire.wire n)

pub returns-else-is_word-clause-answer : goal.returns-else-is_word-clause-answer
returns-else-is_word-clause-answer c = λ d.
    let w1 = then (through (begin rules.input c.args.at refl)) (c.in_ok-wire.ensures.answer d) in
    to_none w1 (absent c.args.tokens.now.text c.args.tokens.now.list (rules.word (codes "wire")) c.in_ok-wire.wire (shapes.word (codes "wire")) refl (sym c.is_word.ensures.answer ∙ c.if-is_word.false))
