use Rattle.std.proofs.Common.{rules}
use Rattle.lv_lower_blocks.proofs.Casing.{agree-zero}
use Rattle.lv_lower_blocks.proofs.cases.agree.Goals as goal

pub returns-then-is_zero : goal.returns-then-is_zero
returns-then-is_zero c = agree-zero c.args.x c.args.y c.args.free (c.is_zero.ensures (search (rules, c.if-is_zero.true))) c.in_ok-r.ensures.is
