use Rattle.std.proofs.Common.{sym, ◌∙◌}
use Rattle.lv_grammars.specs.Grammar.{call}
use Rattle.lv_grammar.specs.Shapes as shapes
use Rattle.lv_grammar.specs.Rules as rules
use Rattle.lv_parser.proofs.Paths.{begin, through, last, taken, take_ends}
use Rattle.lv_parser.proofs.ItemPaths.{block_items_none, block_good, block_apart, whole_good}
use Rattle.lv_parser.proofs.items.no_items.Goals as goal

pub returns-then-is_block_end-clause-answer : goal.returns-then-is_block_end-clause-answer
returns-then-is_block_end-clause-answer c = λ d t s i.
    last (through (begin (rules.block_items (rules.block_end c.args.looped)) c.args.at (whole_good c.args.looped)))
    (take_ends (block_good c.args.looped) (block_apart c.args.looped) (taken (call shapes.block_item) (shapes.word (rules.block_end c.args.looped)) c.args.at c.new.ensures)
    (sym c.is_block_end.ensures.answer ∙ c.if-is_block_end.true))

pub returns-else-is_block_end-clause-answer : goal.returns-else-is_block_end-clause-answer
returns-else-is_block_end-clause-answer c = λ d t s i.
    block_items_none c.args.looped c.args.at c.begins_block_item.result c.refused.result i c.requires (sym c.is_block_end.ensures.answer ∙ c.if-is_block_end.false) c.begins_block_item.ensures c.refused.ensures
