use Rattle.std.proofs.Common.{◌+◌}
use Rattle.lv_cert.proofs.Writing.{steps_on}
use Rattle.lv_cert.proofs.write.push_steps.Goals as goal

pub loop-k-preserved : goal.loop-k-preserved
loop-k-preserved c =
    steps_on _ c.loop-k.out.items c.push_step.new.out.items c.args.lines.now (c.args.count + 1) c.loop-k.k c.line.result.now c.loop-k.invariant c.line.ensures c.in_ok-push_step.ensures
