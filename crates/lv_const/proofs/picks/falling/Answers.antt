use Rattle.std.proofs.Common.{arith}
use Rattle.lv_const.proofs.Runs.{stays}
use Rattle.lv_const.proofs.picks.falling.Goals as goal

pub overflow_mul-value : goal.overflow_mul-value
overflow_mul-value c = omega (arith, stays c.loop-j.value 0 c.loop-j.j c.loop-j.invariant.1 (omega arith) (omega arith))

pub overflow_add-value : goal.overflow_add-value
overflow_add-value c = omega (arith, stays c.loop-j.value c.bit_of.result c.loop-j.j c.loop-j.invariant.1 c.bit_of.ensures.bit (omega arith))
