use Rattle.std.proofs.Common.{refl}
use Rattle.lv_first.proofs.Gathers.{distinct_none, distinct_first, distinct_rest, first_again}
use Rattle.lv_first.proofs.prepare.+are_distinct.Goals as goal

pub returns-in-empty : goal.returns-in-empty
returns-in-empty t c = (λ e. distinct_none c.args.names.now c.in-empty.len_below, λ d. refl)

pub returns-in-Some : goal.returns-in-Some
returns-in-Some t c = (λ e. absurd (cc), λ d. absurd (first_again c.args.names.now c.first-item.result c.in-Some.field-0 c.in-len1-up.len_at_least c.first-item.is c.in-Some.ensures d))

pub returns-in-None : goal.returns-in-None
returns-in-None t c = (
  λ e. distinct_first c.args.names.now c.first-item.result c.in-len1-up.len_at_least c.first-item.is c.in-None.ensures (c.are_distinct.ensures.0 e),
  λ d. c.are_distinct.ensures.1 (distinct_rest c.args.names.now c.in-len1-up.len_at_least d),
)
