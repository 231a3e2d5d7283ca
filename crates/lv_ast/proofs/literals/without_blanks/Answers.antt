use Rattle.std.proofs.Common.{◌∙◌, sym}
use Rattle.std.proofs.lemmas.List.{take_rest}
use Rattle.lv_ast.proofs.Blanks.{blank_on, blank_stop, blank_end}
use Rattle.lv_ast.proofs.literals.without_blanks.Goals as goal

pub returns-then-not-is_blank : goal.returns-then-not-is_blank
returns-then-not-is_blank c =
    take_rest c.args.bytes.now c.loop-i.i ∙ blank_stop c.args.bytes.now c.loop-i.i c.loop-i-test.true c.loop-i.invariant (sym c.is_blank.ensures ∙ c.if-not-is_blank.true)

pub loop-i-preserved : goal.loop-i-preserved
loop-i-preserved c = blank_on c.args.bytes.now c.loop-i.i c.loop-i-test.true c.loop-i.invariant (sym c.is_blank.ensures ∙ c.if-not-is_blank.false)

pub returns : goal.returns
returns c = blank_end c.args.bytes.now c.loop-i.i c.loop-i-test.false c.loop-i.invariant
