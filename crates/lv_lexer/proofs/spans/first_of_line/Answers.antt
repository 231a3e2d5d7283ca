use Rattle.std.proofs.Common.{sym, ◌∙◌, arith, refl}
use Rattle.lv_lexer.proofs.Lines.{first_more, first_found, first_stop, first_end}
use Rattle.lv_lexer.proofs.spans.first_of_line.Goals as goal

pub loop-token-init : goal.loop-token-init
loop-token-init c = refl

pub loop-token-preserved : goal.loop-token-preserved
loop-token-preserved c = first_more c.args.after.now c.loop-token.token-index c.loop-token-test.true c.loop-token.invariant (sym c.is_line.ensures ∙ c.if-is_line.false) (sym c.is_join.ensures ∙ c.if-not-is_join.false)

pub returns-then-is_line : goal.returns-then-is_line
returns-then-is_line c = first_stop c.args.after.now c.loop-token.token-index c.loop-token-test.true c.loop-token.invariant (sym c.is_line.ensures ∙ c.if-is_line.true)

pub returns-then-not-is_join : goal.returns-then-not-is_join
returns-then-not-is_join c = first_found c.args.after.now c.loop-token.token-index c.loop-token-test.true c.loop-token.invariant (sym c.is_line.ensures ∙ c.if-is_line.false) (sym c.is_join.ensures ∙ c.if-not-is_join.true)

pub returns : goal.returns
returns c = first_end c.args.after.now c.loop-token.token-index (omega arith) c.loop-token.invariant
