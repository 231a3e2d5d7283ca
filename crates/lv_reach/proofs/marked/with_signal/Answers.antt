use Rattle.std.proofs.Common.{ap, sym, ◌∙◌}
use Rattle.lv_source.specs.Names.{Declared, is_signal_sort}
use Rattle.lv_reach.specs.Spreading.{whole_mask}
use Rattle.lv_reach.proofs.Started.{whole-is-span}
use Rattle.lv_reach.proofs.marked.with_signal.Goals as goal

pub returns-in_ok-made-clause-within : goal.returns-in_ok-made-clause-within
returns-in_ok-made-clause-within c = λ S distinct w sort at.
    c.in_ok-made.ensures.within S w (whole-is-span S c.args.k c.whole.result distinct c.whole.ensures.signal c.whole.ensures.every (c.whole.ensures.mask ∙ ap whole_mask (sym at))
    (ap (λ (d : Declared). is_signal_sort d.sort) at ∙ sort c.if-on.true))
