use Rattle.std.proofs.Common.{sym, ◌∙◌}
use Rattle.lv_grammar.specs.Shapes as shapes
use Rattle.lv_parser.proofs.Paths.{token_read}
use Rattle.lv_parser.proofs.Fronts.{token_refused}
use Rattle.lv_parser.proofs.tokens.word.Goals as goal

pub returns-then-is_word-clause-answer : goal.returns-then-is_word-clause-answer
returns-then-is_word-clause-answer c = λ d. token_read d (shapes.word c.args.bytes.now) c.args.at (sym c.is_word.ensures.answer ∙ c.if-is_word.true)

pub returns-else-is_word-clause-answer : goal.returns-else-is_word-clause-answer
returns-else-is_word-clause-answer c = λ d. token_refused d (shapes.word c.args.bytes.now) c.args.at c.requires (sym c.is_word.ensures.answer ∙ c.if-is_word.false)
