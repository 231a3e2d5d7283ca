use Rattle.std.proofs.Common.{◌≡◌, refl, true, false, Bool, not, ◌==◌, List}
use Rattle.lv_bits.specs.Words.{Bits}
use Rattle.lv_bits.specs.Values.{bit}
use Rattle.lv_unroll.specs.Wires.{is_on, number_in, word_in}
use Rattle.lv_unroll.proofs.Growing.{test_of}
use Rattle.lv_unroll.proofs.wires.negated.Goals as goal

twice : (b : Bool) → bit b ≡ bit (not (not b))
twice true = refl
twice false = refl

pub returns : goal.returns
unfolding is_on number_in word_in
returns c = test_of c.args.b.now c.add.new.b c.in_ok-at.at 1 _ (λ (ws : List Bits). not (is_on c.args.b.now ws c.args.x)) refl
    (λ ws. twice (number_in c.args.b.now ws c.args.x == 0)) c.in_ok-at.ensures
