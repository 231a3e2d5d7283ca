use Rattle.std.proofs.Common.{arith}
use Rattle.lv_print.specs.Expressions.{step_tokens}
use Rattle.lv_print.proofs.Papers.{joined_turn, joined_end}
use Rattle.lv_print.proofs.expr.steps.Goals as goal

pub loop-s-preserved : goal.loop-s-preserved
loop-s-preserved c =
    joined_turn step_tokens c.args.steps.now c.loop-s.s-index c.s-item.result c.loop-s.paper c.step.new.paper _ (omega arith) c.s-item.is c.in_ok-step.ensures c.loop-s.invariant

pub returns : goal.returns
returns c = joined_end step_tokens c.args.steps.now c.loop-s.s-index c.loop-s.paper _ (omega arith) c.loop-s.invariant
