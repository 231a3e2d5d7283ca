use Rattle.std.proofs.Common.{rules}
use Rattle.lv_lower_blocks.proofs.Casing.{either-zero}
use Rattle.lv_lower_blocks.proofs.cases.either.Goals as goal

pub returns-then-is_zero-2 : goal.returns-then-is_zero-2
returns-then-is_zero-2 c = either-zero c.args.b.now c.args.x c.args.y c.requires.x_in c.requires.one (c.is_zero-2.ensures (search (rules, c.if-is_zero-2.true)))
