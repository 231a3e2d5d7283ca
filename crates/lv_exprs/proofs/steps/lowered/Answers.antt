use Rattle.std.proofs.Common.{arith}
use Rattle.lv_exprs.proofs.Within.{lower_reach}
use Rattle.lv_exprs.proofs.steps.lowered.Goals as goal

pub returns-clause-within : goal.returns-clause-within
returns-clause-within c =
    let w = lower_reach 1000 c.args.pull c.args.stack.now.frames.items c.reduce.new.stack.frames.items c.args.x c.in_ok-y.y c.requires c.in_ok-y.ensures in
    let a = w.0 in omega arith

pub returns-clause-depth : goal.returns-clause-depth
returns-clause-depth c =
    let w = lower_reach 1000 c.args.pull c.args.stack.now.frames.items c.reduce.new.stack.frames.items c.args.x c.in_ok-y.y c.requires c.in_ok-y.ensures in
    let a = w.1 in omega (arith, a, c.args.stack.now.counted, c.reduce.new.stack.counted)
