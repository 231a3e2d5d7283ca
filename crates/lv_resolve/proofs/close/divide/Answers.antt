use Rattle.std.proofs.Common.{ap, sym, ◌∙◌, arith}
use Rattle.lv_source.specs.Meaning.{own_width}
use Rattle.lv_const.specs.Constants.{names_of, entries_here}
use Rattle.lv_const.proofs.Declared.{entries-declared}
use Rattle.lv_resolve.specs.Places.{with_all}
use Rattle.lv_resolve.proofs.Zeros.{own-zero, value-zero, is-zero, is-whole, width-of}
use Rattle.lv_resolve.proofs.close.divide.Goals as goal

pub value_of-requires-clause-most : goal.value_of-requires-clause-most
value_of-requires-clause-most c = omega (
  arith,
  c.max.ensures,
  (c.in-Ok.ensures.at (entries_here c.args.all.now) (entries-declared c.args.all.now)).right.most,
  c.requires.most,
)

pub value_of-requires-clause-wide : goal.value_of-requires-clause-wide
value_of-requires-clause-wide c =
    let a = ap (own_width (names_of c.args.all.now)) (c.get-in-Ok.ensures ∙ sym c.get.ensures) in
    let b = (c.in-Ok.ensures.at (entries_here c.args.all.now) (entries-declared c.args.all.now)).right.width in
    omega (arith, a, b, c.max.ensures)

pub returns-in-Err : goal.returns-in-Err
returns-in-Err c = λ here ok d. own-zero here c.args.width c.args.signed c.args.divisor.now c.get.result.now c.in-Err.error c.zero_in.result c.get.ensures d
    (c.in-Err.ensures.at (with_all here) ok).wrong c.zero_in.ensures

pub returns-in-Err-value_of : goal.returns-in-Err-value_of
returns-in-Err-value_of c = λ here ok d. value-zero here c.args.width c.args.signed c.args.divisor.now c.get-in-Ok.result.now c.max.result
    c.in-Err-value_of.error c.zero_in-in-Err-value_of.result c.get-in-Ok.ensures d
    (width-of here c.get.result.now c.get-in-Ok.result.now c.args.divisor.now.expr c.in-Ok.own c.args.width c.max.result c.get.ensures c.get-in-Ok.ensures
    (c.in-Ok.ensures.at (with_all here) ok).right.width c.max.ensures)
    (c.in-Err-value_of.ensures.at (with_all here) ok).wrong c.zero_in-in-Err-value_of.ensures

pub returns-then-value-eq0 : goal.returns-then-value-eq0
returns-then-value-eq0 c = λ here ok d. is-zero here c.args.width c.args.signed c.args.divisor.now c.get-in-Ok.result.now c.max.result
    c.in-Ok-value_of.word c.get-in-Ok.ensures d
    (width-of here c.get.result.now c.get-in-Ok.result.now c.args.divisor.now.expr c.in-Ok.own c.args.width c.max.result c.get.ensures c.get-in-Ok.ensures
    (c.in-Ok.ensures.at (with_all here) ok).right.width c.max.ensures)
    (c.in-Ok-value_of.ensures.at (with_all here) ok).right (omega arith)

pub returns-else-value-eq0 : goal.returns-else-value-eq0
returns-else-value-eq0 c = λ here ok d. is-whole here c.args.width c.args.signed c.args.divisor.now c.get-in-Ok.result.now c.max.result
    c.in-Ok-value_of.word c.get-in-Ok.ensures d
    (width-of here c.get.result.now c.get-in-Ok.result.now c.args.divisor.now.expr c.in-Ok.own c.args.width c.max.result c.get.ensures c.get-in-Ok.ensures
    (c.in-Ok.ensures.at (with_all here) ok).right.width c.max.ensures)
    (c.in-Ok-value_of.ensures.at (with_all here) ok).right (λ h. omega arith)
