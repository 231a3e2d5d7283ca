use Rattle.std.proofs.Common.{arith}
use Rattle.lv_flat.specs.Signals.{declared_all}
use Rattle.lv_legal.proofs.Kept.{kept_all}
use Rattle.lv_legal.proofs.judging.first_broken.Goals as goal

pub returns : goal.returns
returns c = kept_all c.args.clock.now (declared_all c.args.signals.now) c.args.extents.now c.loop-rule.rule-index (omega arith) c.loop-rule.invariant
