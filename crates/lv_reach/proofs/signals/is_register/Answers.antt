use Rattle.std.proofs.Common.{sym, ◌∙◌, rules}
use Rattle.lv_reach.proofs.Registered.{register-is}
use Rattle.lv_reach.proofs.signals.is_register.Goals as goal

pub returns-then-is_variable : goal.returns-then-is_variable
returns-then-is_variable c = λ S vs xs distinct h d at.
    register-is S vs xs c.args.driven.now c.args.k _ c.whole.result distinct h d at c.whole.ensures.signal c.whole.ensures.every c.whole.ensures.mask (sym c.is_variable.ensures ∙ c.if-is_variable.true)
    c.meets-met.result c.meets-met.ensures.meet c.meets-met.ensures.apart
