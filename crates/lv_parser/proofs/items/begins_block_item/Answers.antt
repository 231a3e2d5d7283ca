use Rattle.std.proofs.Common.{rules}
use Rattle.lv_parser.specs.Answers.{from}
use Rattle.lv_parser.proofs.ItemPaths.{begins_by}
use Rattle.lv_parser.proofs.items.begins_block_item.Goals as goal

pub returns-then-begins_process : goal.returns-then-begins_process
returns-then-begins_process c = begins_by _ (from c.args.tokens.now.text c.args.tokens.now.list c.args.at) (search rules)

pub returns-else-begins_process : goal.returns-else-begins_process
returns-else-begins_process c = begins_by _ (from c.args.tokens.now.text c.args.tokens.now.list c.args.at) (search rules)
