use Rattle.std.proofs.Common.{arith}
use Rattle.lv_rules.proofs.Gaps.{lacking-none, lacking-some}
use Rattle.lv_rules.proofs.undriven.lacks.Goals as goal

pub returns-then-rest-eq0 : goal.returns-then-rest-eq0
returns-then-rest-eq0 c = lacking-none c.args.mask c.args.covered c.if-rest-eq0.true

pub returns : goal.returns
returns c = lacking-some c.args.mask c.args.covered (omega arith)
