use Rattle.std.proofs.Common.{arith}
use Rattle.lv_print.proofs.DigitRules.{free-end, free-before}
use Rattle.lv_print.proofs.literal.+free_digits.Goals as goal

pub returns-then-count-eq0 : goal.returns-then-count-eq0
returns-then-count-eq0 t c = free-end _ _ _ _ c.if-count-eq0.true

pub returns : goal.returns
returns t c = free-before c.args.count c.args.value c.args.wild c.args.bytes.now c.free_digits.new.bytes c.push.new.self c.free_glyph.result (omega arith) c.in_ok-free_digits.ensures
    c.free_glyph.ensures c.in_ok-push.ensures.ok
