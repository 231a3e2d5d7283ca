use Rattle.std.proofs.Common.{sym, ◌∙◌}
use Rattle.lv_grammar.specs.Shapes as shapes
use Rattle.lv_parser.proofs.Paths.{token_read}
use Rattle.lv_parser.proofs.Fronts.{token_refused}
use Rattle.lv_parser.proofs.tokens.mark.Goals as goal

pub returns-then-is_mark-clause-answer : goal.returns-then-is_mark-clause-answer
returns-then-is_mark-clause-answer c = λ d. token_read d (shapes.mark c.args.bytes.now) c.args.at (sym c.is_mark.ensures.answer ∙ c.if-is_mark.true)

pub returns-else-is_mark-clause-answer : goal.returns-else-is_mark-clause-answer
returns-else-is_mark-clause-answer c = λ d. token_refused d (shapes.mark c.args.bytes.now) c.args.at c.requires (sym c.is_mark.ensures.answer ∙ c.if-is_mark.false)
