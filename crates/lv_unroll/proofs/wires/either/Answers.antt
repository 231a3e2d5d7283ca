use Rattle.std.proofs.Common.{refl, ◌||◌, List}
use Rattle.lv_bits.specs.Words.{Bits}
use Rattle.lv_unroll.specs.Wires.{is_on, number_in, word_in}
use Rattle.lv_unroll.proofs.Growing.{test_of}
use Rattle.lv_unroll.proofs.wires.either.Goals as goal

pub returns : goal.returns
unfolding is_on number_in word_in
returns c = test_of c.args.b.now c.add.new.b c.in_ok-at.at 1 _ (λ (ws : List Bits). is_on c.args.b.now ws c.args.x || is_on c.args.b.now ws c.args.y) refl
    (λ ws. refl) c.in_ok-at.ensures
