use Rattle.std.proofs.Common.{bit_and, refl, arith}
use Rattle.lv_rules.proofs.Gaps.{elements-more}
use Rattle.lv_rules.proofs.undriven.common_elements.Goals as goal

pub loop-e-preserved : goal.loop-e-preserved
loop-e-preserved c =
    elements-more c.args.driven.now c.args.k c.from-low.result c.loop-e.e c.loop-e.mask c.mask-mask-in-loop-e.result (bit_and c.loop-e.mask c.mask-mask-in-loop-e.result)
    (omega arith) c.mask-mask-in-loop-e.ensures refl c.loop-e.invariant
