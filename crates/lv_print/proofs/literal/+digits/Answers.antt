use Rattle.std.proofs.Common.{arith, refl, ◌∙◌}
use Rattle.lv_print.proofs.DigitRules.{digits-end, digits-last, digits-before}
use Rattle.lv_print.proofs.literal.+digits.Goals as goal
use Rattle.lv_print.proofs.literal.+digits.Goals.{then-n-base+in_ok-digits, else-n-base}

pub returns-then-most-eq0 : goal.returns-then-most-eq0
returns-then-most-eq0 t c = digits-end _ _ _ _ c.if-most-eq0.true

pub returns : goal.returns
returns t c =
    elim c.if-n-base.branch [
      | then-n-base+in_ok-digits w ↦ digits-before c.args.base c.args.most c.args.n c.args.bytes.now c.if-n-base.bytes c.push.new.self _ c.glyph.result (omega arith) (omega arith)
          (w.bytes-is ∙ w.in_ok-digits.ensures) c.glyph.ensures c.in_ok-push.ensures.ok refl
      | else-n-base w ↦ digits-last c.args.base c.args.most c.args.n c.args.bytes.now c.if-n-base.bytes c.push.new.self _ c.glyph.result (omega arith)
          (omega arith) w.bytes-is c.glyph.ensures c.in_ok-push.ensures.ok refl
    ]
