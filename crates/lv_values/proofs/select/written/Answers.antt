use Rattle.std.proofs.Common.{arith}
use Rattle.lv_values.proofs.Selecting.{written_none, written_some}
use Rattle.lv_values.proofs.select.written.Goals as goal

pub returns-then-at-eq0 : goal.returns-then-at-eq0
returns-then-at-eq0 c = written_none c.args.b.now c.args.word c.args.x c.args.at.below c.args.at.low c.args.at.count c.args.at.above c.requires.word_in (omega (arith, c.if-at-eq0.true))

pub returns : goal.returns
returns c = written_some c.args.word c.args.x c.args.at.below c.args.at.low c.args.at.count c.args.at.above c.in_ok-y.ensures.is c.in_ok-r.ensures
