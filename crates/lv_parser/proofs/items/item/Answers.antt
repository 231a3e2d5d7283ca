use Rattle.std.proofs.Common.{sym, ◌∙◌, arith}
use Rattle.lv_parser.proofs.StatementPaths.{carried}
use Rattle.lv_parser.proofs.ItemPaths.{item_within, port_first, not_port, parameter_first, not_parameter, generate_first, not_generate}
use Rattle.lv_parser.proofs.items.item.Goals as goal

pub returns-then-is_direction-clause-answer : goal.returns-then-is_direction-clause-answer
returns-then-is_direction-clause-answer c = item_within c.args.tokens.now.text c.args.tokens.now.list 200 c.args.at c.port.result (omega arith) (λ d t s i.
    carried c.port.result (port_first c.args.at (sym c.is_direction.ensures ∙ c.if-is_direction.true)) (c.port.ensures.answer d))

pub returns-then-is_word-clause-answer : goal.returns-then-is_word-clause-answer
returns-then-is_word-clause-answer c = item_within c.args.tokens.now.text c.args.tokens.now.list 200 c.args.at c.parameter.result (omega arith) (λ d t s i.
    let w0 = not_port c.args.at (sym c.is_direction.ensures ∙ c.if-is_direction.false) in
    carried c.parameter.result (parameter_first c.args.at w0 (sym c.is_word.ensures.answer ∙ c.if-is_word.true)) (c.parameter.ensures.answer d))

pub returns-then-is_word-2-clause-answer : goal.returns-then-is_word-2-clause-answer
returns-then-is_word-2-clause-answer c = item_within c.args.tokens.now.text c.args.tokens.now.list 200 c.args.at c.generate.result (omega arith) (λ d t s i.
    let w0 = not_port c.args.at (sym c.is_direction.ensures ∙ c.if-is_direction.false) in
    let w1 = not_parameter c.args.at w0 (sym c.is_word.ensures.answer ∙ c.if-is_word.false) in
    carried c.generate.result (generate_first c.args.at w1 (sym c.is_word-else-is_word.ensures.answer ∙ c.if-is_word-2.true)) (c.generate.ensures.answer d t s i))

pub returns-else-is_word-2-clause-answer : goal.returns-else-is_word-2-clause-answer
returns-else-is_word-2-clause-answer c = item_within c.args.tokens.now.text c.args.tokens.now.list 200 c.args.at c.block_item_body.result (omega arith) (λ d t s i.
    let w0 = not_port c.args.at (sym c.is_direction.ensures ∙ c.if-is_direction.false) in
    let w1 = not_parameter c.args.at w0 (sym c.is_word.ensures.answer ∙ c.if-is_word.false) in
    carried c.block_item_body.result (not_generate c.args.at w1 (sym c.is_word-else-is_word.ensures.answer ∙ c.if-is_word-2.false)) (c.block_item_body.ensures.answer d t s i))
