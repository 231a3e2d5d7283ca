use Rattle.std.proofs.Common.{ap}
use Rattle.lv_bits.specs.Words.{Bits}
use Rattle.lv_unroll.specs.Wires.{number_in, word_in}
use Rattle.lv_unroll.proofs.wires.wide.Goals as goal

pub returns : goal.returns
unfolding number_in word_in
returns c = record {
  extends = c.in_ok-at.ensures.extends;
  within = c.in_ok-at.ensures.within;
  width = c.in_ok-at.ensures.width;
  is = λ ws. ap (λ (b : Bits). b.value) (c.in_ok-at.ensures.is ws);
}
