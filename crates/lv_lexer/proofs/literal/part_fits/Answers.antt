use Rattle.std.proofs.Common.{sym, subst, ◌<◌, ◌^◌, arith}
use Rattle.lv_ast.specs.Literals.{part_digit}
use Rattle.lv_lexer.proofs.Literals.{digits_start, digits_more, digits_end, digits_pass}
use Rattle.lv_lexer.proofs.literal.part_fits.Goals as goal

pub loop-byte-init : goal.loop-byte-init
loop-byte-init c = record { same = digits_start (part_digit c.args.part c.args.base) c.args.base c.args.digits.now; low = omega arith }

pub loop-byte-preserved : goal.loop-byte-preserved
loop-byte-preserved c =
    let next = c.in-Some.ensures.value in
    record {
      same = digits_more (part_digit c.args.part c.args.base) c.args.base c.args.digits.now c.loop-byte.byte-index c.loop-byte.number c.in-Some.next c.loop-byte-test.true c.loop-byte.invariant.same next.1;
      low = subst (λ n. n < 2 ^ 128) (sym next.1) next.0;
    }

pub returns-in-None : goal.returns-in-None
returns-in-None c =
    digits_pass (part_digit c.args.part c.args.base) c.args.base c.args.digits.now c.loop-byte.byte-index c.loop-byte.number c.loop-byte-test.true c.loop-byte.invariant.same c.loop-byte.invariant.low
    (omega (arith, c.in-None.ensures.small))
    c.in-None.ensures.value

pub returns : goal.returns
returns c = digits_end (part_digit c.args.part c.args.base) c.args.base c.args.digits.now c.loop-byte.byte-index c.loop-byte.number (omega arith) c.loop-byte.invariant.same c.loop-byte.invariant.low
