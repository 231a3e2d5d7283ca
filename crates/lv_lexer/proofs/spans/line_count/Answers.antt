use Rattle.std.proofs.Common.{sym, ◌∙◌, arith}
use Rattle.lv_lexer.proofs.Lines.{count_start, count_more, count_found, count_end}
use Rattle.lv_lexer.proofs.spans.line_count.Goals as goal

pub loop-i-init : goal.loop-i-init
loop-i-init c = count_start c.args.after.now

pub loop-i-preserved : goal.loop-i-preserved
loop-i-preserved c = count_more c.args.after.now c.loop-i.i c.loop-i-test.true c.loop-i.invariant (sym c.is_line.ensures ∙ c.if-is_line.false)

pub returns-then-is_line : goal.returns-then-is_line
returns-then-is_line c = count_found c.args.after.now c.loop-i.i c.loop-i-test.true c.loop-i.invariant (sym c.is_line.ensures ∙ c.if-is_line.true)

pub returns : goal.returns
returns c = count_end c.args.after.now c.loop-i.i (omega arith) (omega arith) c.loop-i.invariant
