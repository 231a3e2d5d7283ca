use Rattle.std.proofs.Common.{refl, sym, ◌∙◌, codes}
use Rattle.lv_grammar.specs.Shapes as shapes
use Rattle.lv_grammar.specs.Rules as rules
use Rattle.lv_parser.proofs.Paths.{begin, through, last, to_some, to_none, opens, absent, token_read}
use Rattle.lv_parser.proofs.declarations.signed.Goals as goal

pub returns-then-is_word-clause-answer : goal.returns-then-is_word-clause-answer
returns-then-is_word-clause-answer c = λ d.
    let n = sym c.is_word.ensures.answer ∙ c.if-is_word.true in
    let o = opens c.args.tokens.now.text c.args.tokens.now.list (rules.word (codes "signed")) c.args.at 0 (shapes.word (codes "signed")) refl n in
    last (to_some (through (begin rules.signed c.args.at refl)) o) (token_read d (shapes.word (codes "signed")) c.args.at n)

pub returns-else-is_word-clause-answer : goal.returns-else-is_word-clause-answer
returns-else-is_word-clause-answer c = λ d.
    to_none (through (begin rules.signed c.args.at refl))
    (absent c.args.tokens.now.text c.args.tokens.now.list (rules.word (codes "signed")) c.args.at (shapes.word (codes "signed")) refl (sym c.is_word.ensures.answer ∙ c.if-is_word.false))
