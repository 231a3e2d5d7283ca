use Rattle.std.proofs.Common.{sym, ◌∙◌, arith}
use Rattle.lv_parser.proofs.Paths.{listed, list_refused, list_more, list_stops, list_ends}
use Rattle.lv_parser.proofs.Fronts.{exit}
use Rattle.lv_parser.proofs.lists.list.Goals as goal

pub returns-in_err-first-clause-answer : goal.returns-in_err-first-clause-answer
returns-in_err-first-clause-answer g c = λ d. exit _ c.from_residual.ensures.1 (list_refused (g.E.Entries.good c.args.entries.now) (c.in_err-first.ensures.answer d))

pub turns-init : goal.turns-init
turns-init g c =
    (λ d. listed (g.E.Entries.good c.args.entries.now) c.new-list.ensures c.in_ok-push.ensures (c.in_ok-first.ensures.answer d), c.in_ok-first.ensures.ahead.0, c.in_ok-first.ensures.ahead.1)

pub returns-in_err-more-clause-answer : goal.returns-in_err-more-clause-answer
returns-in_err-more-clause-answer g c = λ d.
    exit _ c.from_residual-in_err-more.ensures.1 (list_stops (c.turns.invariant.0 d) (sym c.is_mark.ensures.answer ∙ c.turns-test.true) (c.in_err-more.ensures.answer d))

pub turns-preserved : goal.turns-preserved
turns-preserved g c = (
  λ d. list_more (c.turns.invariant.0 d) (sym c.is_mark.ensures.answer ∙ c.turns-test.true) c.in_ok-push-2.ensures (c.in_ok-more.ensures.answer d),
  omega (arith, c.in_ok-more.ensures.ahead.0, c.turns.invariant.1),
  c.in_ok-more.ensures.ahead.1,
)

pub returns-clause-answer : goal.returns-clause-answer
returns-clause-answer g c = λ d. list_ends (c.turns.invariant.0 d) (sym c.is_mark.ensures.answer ∙ c.turns-test.false)
