use Rattle.std.proofs.Common.{sym, subst}
use Rattle.lv_grammar.specs.Rules as rules
use Rattle.lv_parser.specs.Answers.{Answer, token_result}
use Rattle.lv_parser.proofs.statements.case_word.Goals as goal

pub returns-then-wild-clause-answer : goal.returns-then-wild-clause-answer
returns-then-wild-clause-answer c = λ d.
    subst (λ w. Answer c.args.tokens.now.text c.args.tokens.now.list d (rules.word (rules.case_word w)) c.args.at (token_result c.args.tokens.now.text c.args.tokens.now.list c.args.at c.word.result)) (sym c.if-wild.true) (c.word.ensures.answer d)

pub returns-else-wild-clause-answer : goal.returns-else-wild-clause-answer
returns-else-wild-clause-answer c = λ d.
    subst (λ w. Answer c.args.tokens.now.text c.args.tokens.now.list d (rules.word (rules.case_word w)) c.args.at (token_result c.args.tokens.now.text c.args.tokens.now.list c.args.at c.word-else-wild.result)) (sym c.if-wild.false) (c.word-else-wild.ensures.answer d)
