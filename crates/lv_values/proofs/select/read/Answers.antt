use Rattle.std.proofs.Common.{arith}
use Rattle.lv_values.proofs.Selecting.{read_none, read_some}
use Rattle.lv_values.proofs.select.read.Goals as goal

pub returns-then-at-eq0-clause-is : goal.returns-then-at-eq0-clause-is
returns-then-at-eq0-clause-is c = read_none c.args.b.now c.args.word c.zeros-r.result c.args.at.below c.args.at.low c.args.at.count c.args.at.above (omega (arith, c.if-at-eq0.true)) c.zeros-r.ensures

pub returns-clause-is : goal.returns-clause-is
returns-clause-is c = read_some c.args.word c.args.at.below c.args.at.low c.args.at.count c.args.at.above c.in_ok-x.ensures.is c.in_ok-y.ensures.is c.in_ok-r.ensures.is
