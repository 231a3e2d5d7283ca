use Rattle.std.proofs.Common.{sym, ◌∙◌, arith}
use Rattle.lv_lexer.proofs.Lines.{line_start, line_more, line_found, line_end}
use Rattle.lv_lexer.proofs.spans.line.Goals as goal

pub loop-token-init : goal.loop-token-init
loop-token-init c = line_start c.args.after.now _ c.new-line.ensures

pub loop-token-preserved : goal.loop-token-preserved
loop-token-preserved c = line_more c.args.after.now c.loop-token.line _ c.loop-token.token-index c.loop-token-test.true c.loop-token.invariant (sym c.is_line.ensures ∙ c.if-is_line.false) c.in_ok-add.ensures.ok

pub returns-then-is_line : goal.returns-then-is_line
returns-then-is_line c = record { ok = line_found c.args.after.now c.loop-token.line c.loop-token.token-index c.loop-token-test.true c.loop-token.invariant (sym c.is_line.ensures ∙ c.if-is_line.true); err = tt }

pub returns : goal.returns
returns c = record { ok = line_end c.args.after.now c.loop-token.line c.loop-token.token-index (omega arith) c.loop-token.invariant; err = tt }
