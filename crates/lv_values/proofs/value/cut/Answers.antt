use Rattle.std.proofs.Common.{rules}
use Rattle.lv_values.proofs.Growth.{gives-whole}
use Rattle.lv_values.proofs.value.cut.Goals as goal

pub returns-then-width-clause-is : goal.returns-then-width-clause-is
returns-then-width-clause-is c = gives-whole c.args.b.now c.args.x c.args.low c.args.width c.requires.x_in (search (rules, c.if-width.true, c.width.ensures)) c.requires.inside
