use Rattle.std.proofs.Common.{sym, ◌∙◌}
use Rattle.lv_parser.proofs.Paths.{last, refuse_last}
use Rattle.lv_parser.proofs.Fronts.{exit}
use Rattle.lv_parser.proofs.Selects.{bit_read, part_next, up_next, down_next}
use Rattle.lv_parser.proofs.exprs.span_behind.Goals as goal

pub returns-then-is_mark-clause-answer : goal.returns-then-is_mark-clause-answer
returns-then-is_mark-clause-answer c = λ d. bit_read c.args.tokens.now.text c.args.tokens.now.list d c.args.at (sym c.is_mark.ensures.answer ∙ c.if-is_mark.true)

pub returns-in_err-right-clause-answer : goal.returns-in_err-right-clause-answer
returns-in_err-right-clause-answer c = λ d. exit _ c.from_residual.ensures.1 (refuse_last (part_next c.args.tokens.now.text c.args.tokens.now.list d c.args.at (sym c.is_mark.ensures.answer ∙ c.if-is_mark.false) (sym c.is_mark-else-is_mark.ensures.answer ∙ c.if-is_mark-2.true)) (c.in_err-right.ensures.answer d))

pub returns-in_ok-right-clause-answer : goal.returns-in_ok-right-clause-answer
returns-in_ok-right-clause-answer c = λ d. last (part_next c.args.tokens.now.text c.args.tokens.now.list d c.args.at (sym c.is_mark.ensures.answer ∙ c.if-is_mark.false) (sym c.is_mark-else-is_mark.ensures.answer ∙ c.if-is_mark-2.true)) (c.in_ok-right.ensures.answer d)

pub returns-in_err-right-2-clause-answer : goal.returns-in_err-right-2-clause-answer
returns-in_err-right-2-clause-answer c = λ d. exit _ c.from_residual-in_err-right-2.ensures.1 (refuse_last (up_next c.args.tokens.now.text c.args.tokens.now.list d c.args.at (sym c.is_mark.ensures.answer ∙ c.if-is_mark.false) (sym c.is_mark-else-is_mark.ensures.answer ∙ c.if-is_mark-2.false) (sym c.is_mark-else-is_mark-2.ensures.answer ∙ c.if-is_mark-3.true)) (c.in_err-right-2.ensures.answer d))

pub returns-in_ok-right-2-clause-answer : goal.returns-in_ok-right-2-clause-answer
returns-in_ok-right-2-clause-answer c = λ d. last (up_next c.args.tokens.now.text c.args.tokens.now.list d c.args.at (sym c.is_mark.ensures.answer ∙ c.if-is_mark.false) (sym c.is_mark-else-is_mark.ensures.answer ∙ c.if-is_mark-2.false) (sym c.is_mark-else-is_mark-2.ensures.answer ∙ c.if-is_mark-3.true)) (c.in_ok-right-2.ensures.answer d)

pub returns-in_err-right-3-clause-answer : goal.returns-in_err-right-3-clause-answer
returns-in_err-right-3-clause-answer c = λ d. exit _ c.from_residual-in_err-right-3.ensures.1 (refuse_last (down_next c.args.tokens.now.text c.args.tokens.now.list d c.args.at (sym c.is_mark.ensures.answer ∙ c.if-is_mark.false) (sym c.is_mark-else-is_mark.ensures.answer ∙ c.if-is_mark-2.false) (sym c.is_mark-else-is_mark-2.ensures.answer ∙ c.if-is_mark-3.false)) (c.in_err-right-3.ensures.answer d))

pub returns-in_ok-right-3-clause-answer : goal.returns-in_ok-right-3-clause-answer
returns-in_ok-right-3-clause-answer c = λ d. last (down_next c.args.tokens.now.text c.args.tokens.now.list d c.args.at (sym c.is_mark.ensures.answer ∙ c.if-is_mark.false) (sym c.is_mark-else-is_mark.ensures.answer ∙ c.if-is_mark-2.false) (sym c.is_mark-else-is_mark-2.ensures.answer ∙ c.if-is_mark-3.false)) (c.in_ok-right-3.ensures.answer d)
