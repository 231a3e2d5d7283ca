use Rattle.std.proofs.Common.{◌+◌, ◌*◌, ap, ◌∙◌, arith}
use Rattle.lv_const.specs.Constants.{bounds_of}
use Rattle.lv_const.proofs.Runs.{stays, grows, rising_more}
use Rattle.lv_const.proofs.picks.rising.Goals as goal

pub overflow_mul-value : goal.overflow_mul-value
overflow_mul-value c = omega (arith, stays c.loop-j.value 0 c.loop-j.j c.loop-j.invariant.1 (omega arith) (omega arith))

pub overflow_add-value : goal.overflow_add-value
overflow_add-value c = omega (arith, stays c.loop-j.value c.bit_of.result c.loop-j.j c.loop-j.invariant.1 c.bit_of.ensures.bit (omega arith))

pub loop-j-preserved : goal.loop-j-preserved
loop-j-preserved c = (
  ap (λ k. 2 * c.loop-j.value + k) c.bit_of.ensures.is ∙ rising_more c.args.constant.now.word.value c.args.lowest c.loop-j.j c.loop-j.value
      (bounds_of c.args.constant.now) c.loop-j.invariant.0,
  grows c.loop-j.value c.bit_of.result c.loop-j.j c.loop-j.invariant.1 c.bit_of.ensures.bit,
)
