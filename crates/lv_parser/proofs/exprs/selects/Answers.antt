use Rattle.std.proofs.Common.{sym, ◌∙◌, arith}
use Rattle.lv_parser.proofs.Fronts.{exit}
use Rattle.lv_parser.proofs.Selects.{counted, count_more, count_stops, count_ends}
use Rattle.lv_parser.proofs.exprs.selects.Goals as goal

pub entries-init : goal.entries-init
entries-init c = (λ d. counted c.args.at c.new-list.ensures, omega arith, c.requires)

pub returns-in_err-select-clause-answer : goal.returns-in_err-select-clause-answer
returns-in_err-select-clause-answer c = λ d.
    exit _ c.from_residual.ensures.1 (count_stops (c.entries.invariant.0 d) (sym c.is_mark.ensures.answer ∙ c.entries-test.true) (c.in_err-select.ensures.answer d))

pub entries-preserved : goal.entries-preserved
entries-preserved c = (
  λ d. count_more (c.entries.invariant.0 d) (sym c.is_mark.ensures.answer ∙ c.entries-test.true) c.in_ok-push.ensures (c.in_ok-select.ensures.answer d),
  omega (arith, c.in_ok-select.ensures.ahead.0, c.entries.invariant.1),
  c.in_ok-select.ensures.ahead.1,
)

pub returns-clause-answer : goal.returns-clause-answer
returns-clause-answer c = λ d. count_ends (c.entries.invariant.0 d) (sym c.is_mark.ensures.answer ∙ c.entries-test.false)
