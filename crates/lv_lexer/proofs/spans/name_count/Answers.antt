use Rattle.std.proofs.Common.{sym, ◌∙◌, arith}
use Rattle.lv_lexer.proofs.Lines.{name_start, name_more, name_found, name_end}
use Rattle.lv_lexer.proofs.spans.name_count.Goals as goal

pub loop-i-init : goal.loop-i-init
loop-i-init c = name_start c.args.after.now

pub loop-i-preserved : goal.loop-i-preserved
loop-i-preserved c = name_more c.args.after.now c.loop-i.i c.loop-i-test.true c.loop-i.invariant (sym c.is_join.ensures ∙ c.if-not-is_join.false)

pub returns-then-not-is_join : goal.returns-then-not-is_join
returns-then-not-is_join c = name_found c.args.after.now c.loop-i.i c.loop-i-test.true c.loop-i.invariant (sym c.is_join.ensures ∙ c.if-not-is_join.true)

pub returns : goal.returns
returns c = name_end c.args.after.now c.loop-i.i (omega arith) (omega arith) c.loop-i.invariant
