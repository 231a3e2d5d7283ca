use Rattle.std.proofs.Common.{ap, arith, ◌-◌}
use Rattle.lv_values.proofs.Selecting.{high_some}
use Rattle.lv_values.proofs.select.below_high.Goals as goal

pub returns : goal.returns
returns c = high_some c.args.word c.args.x c.width-low.result (c.width-width.result - c.width-low.result) c.width-low.ensures (ap (λ k. k - c.width-low.result) c.width-width.ensures)
    (omega (arith, c.width-low.ensures, c.requires.inside)) c.requires.word_in c.in_ok-y.ensures.is c.in_ok-r.ensures.is
