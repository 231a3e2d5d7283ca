use Rattle.std.proofs.Common.{◌∙◌, sym}
use Rattle.lv_exprs.proofs.steps.reduce.Goals as goal

pub returns : goal.returns
returns c = sym c.loop-frame.invariant ∙ c.in_default.ensures {u = tt} c.loop-frame.x
