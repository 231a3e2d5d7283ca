use Rattle.std.proofs.Common.{ap, true, List}
use Rattle.lv_bits.specs.Words.{Bits}
use Rattle.lv_unroll.proofs.Growing.{test_of}
use Rattle.lv_unroll.proofs.wires.always.Goals as goal

pub returns : goal.returns
returns c = test_of c.args.b.now c.add.new.b c.in_ok-at.at c.new.result.width _ (λ (ws : List Bits). true) (ap (λ (b : Bits). b.width) c.new.ensures)
    (λ ws. ap (λ (b : Bits). b.value) c.new.ensures) c.in_ok-at.ensures
