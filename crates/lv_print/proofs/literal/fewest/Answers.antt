use Rattle.std.proofs.Common.{arith, ◌-◌, ◌∙◌, sym}
use Rattle.lv_print.specs.Literals.{gives_back}
use Rattle.lv_print.proofs.DigitRules.{first-pass, first-fail, first-none}
use Rattle.lv_print.proofs.literal.fewest.Goals as goal

pub returns-then-gives_back : goal.returns-then-gives_back
returns-then-gives_back c = first-pass (gives_back c.args.width c.args.value c.args.wild) (128 - c.loop-k.k) c.loop-k.k _ (omega arith) (cc) c.loop-k.invariant

pub loop-k-preserved : goal.loop-k-preserved
loop-k-preserved c = first-fail (gives_back c.args.width c.args.value c.args.wild) (128 - c.loop-k.k) _ c.loop-k.k _ (omega arith) (omega arith) (cc) c.loop-k.invariant

pub returns : goal.returns
returns c = sym (c.loop-k.invariant ∙ first-none (gives_back c.args.width c.args.value c.args.wild) (128 - c.loop-k.k) c.loop-k.k (omega arith) ∙ (omega arith))
