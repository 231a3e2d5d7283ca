use Rattle.std.proofs.Common.{◌+◌, ◌*◌, ◌%◌, drop, ◌<◌, ◌^◌, ◌∙◌, ap, sym, subst}
use Rattle.std.proofs.Math.Nat.{mod-lt}
use Rattle.std.proofs.Math.Pow.{pow_pos}
use Rattle.lv_ast.specs.Literals.{part_digit}
use Rattle.lv_ast.specs.Tokens.{digits_number}
use Rattle.lv_exprs.proofs.Digits.{digit_on, passed_on, digits_end}
use Rattle.lv_exprs.proofs.literal.digits_number.Goals.{then-c-ne95, else-c-ne95}
use Rattle.lv_exprs.proofs.literal.digits_number.Goals as goal

pub loop-c-preserved : goal.loop-c-preserved
loop-c-preserved c =
    let f = part_digit c.args.part c.args.base in
    elim c.if-c-ne95.branch [
      | then-c-ne95 w ↦
          let is = w.number-is ∙ w.with_digit-number.ensures ∙ ap (λ n. (c.loop-c.number * c.args.base % 2 ^ 128 + n) % 2 ^ 128) w.part_digit.ensures in
          record {
            same = digit_on f c.args.base c.loop-c.number _ c.args.digits.now c.loop-c.c-index c.loop-c-test.true w.if-c-ne95.true is ∙ c.loop-c.invariant.same;
            low = subst (λ n. n < 2 ^ 128) (sym (w.number-is ∙ w.with_digit-number.ensures)) (mod-lt _ {m = 2 ^ 128} (pow_pos 128));
          }
      | else-c-ne95 w ↦ record {
        same = ap (λ n. digits_number f c.args.base n (drop (c.loop-c.c-index + 1) c.args.digits.now) % 2 ^ 128) w.number-is
            ∙ passed_on f c.args.base c.loop-c.number c.args.digits.now c.loop-c.c-index c.loop-c-test.true w.if-c-ne95.false ∙ c.loop-c.invariant.same;
        low = subst (λ n. n < 2 ^ 128) (sym w.number-is) c.loop-c.invariant.low;
      }
    ]

pub returns : goal.returns
returns c = digits_end (part_digit c.args.part c.args.base) c.args.base c.args.before c.loop-c.number c.args.digits.now c.loop-c.c-index c.loop-c-test.false c.loop-c.invariant.same c.loop-c.invariant.low
