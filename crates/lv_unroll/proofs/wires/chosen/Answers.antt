use Rattle.std.proofs.Common.{◌≡◌, ◌∙◌, refl, ap, Bool, true, false, not, if◌then◌else◌, ◌==◌}
use Rattle.lv_bits.specs.Words.{Bits}
use Rattle.lv_unroll.specs.Wires.{number_in, word_in, is_on}
use Rattle.lv_unroll.proofs.wires.chosen.Goals as goal

taken : (t : Bool) (x y : Bits) → (if t then y else x).value ≡ (if not t then x.value else y.value)
taken true x y = refl
taken false x y = refl

pub returns : goal.returns
unfolding is_on number_in word_in
returns c = record {
  extends = c.in_ok-at.ensures.extends;
  within = c.in_ok-at.ensures.within;
  width = c.in_ok-at.ensures.width;
  is = λ ws. ap (λ (b : Bits). b.value) (c.in_ok-at.ensures.is ws) ∙ taken (number_in c.args.b.now ws c.args.c == 0) (word_in c.args.b.now ws c.args.x)
      (word_in c.args.b.now ws c.args.y);
}
