use Rattle.std.proofs.Common.{◌==◌, ◌%◌, arith, refl}
use Rattle.lv_aig.specs.Edges.{edge_bit}
use Rattle.lv_circuits.proofs.RowJoins.{first_digit, more_digits, all_digits, digit_of}
use Rattle.lv_circuits.proofs.rows.constant.Goals as goal

pub loop-init : goal.loop-init
loop-init c = first_digit c.args.and.now c.new-out.result c.value-rest.result c.args.word.value c.new-out.ensures c.value-rest.ensures.is

pub loop-preserved : goal.loop-preserved
loop-preserved c =
    more_digits c.args.and.now c.loop.out c.push.new.self c.digit-e.result c.loop.counter c.loop.rest c.args.word.value c.digit-e.ensures.within c.in_ok-push.ensures.ok
    (λ v val. digit_of c.loop.rest (c.loop.rest % 2 == 1) (edge_bit v c.digit-e.result) (c.digit-e.ensures.is v val) refl) c.loop.invariant

pub returns : goal.returns
returns c = all_digits c.args.and.now c.loop.out c.loop.counter c.loop.rest c.args.word (omega arith) (omega (arith, c.value-rest.ensures.is, c.value-rest.ensures.fits)) c.loop.invariant
