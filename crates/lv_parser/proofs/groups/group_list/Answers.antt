use Rattle.std.proofs.Common.{refl, sym, ◌∙◌, arith}
use Rattle.lv_grammar.specs.Rules as rules
use Rattle.lv_parser.proofs.Paths.{begin, through, then, refuse}
use Rattle.lv_parser.proofs.Fronts.{exit}
use Rattle.lv_parser.proofs.Grouping.{groups_begin, groups_more, groups_stop, groups_end}
use Rattle.lv_parser.proofs.groups.group_list.Goals as goal

pub returns-in_err-header-clause-answer : goal.returns-in_err-header-clause-answer
returns-in_err-header-clause-answer c = λ d. exit _ c.from_residual.ensures.1 (refuse (through (begin rules.group_list c.args.at refl)) (c.in_err-header.ensures.answer d) refl)

pub returns-in_err-first-clause-answer : goal.returns-in_err-first-clause-answer
returns-in_err-first-clause-answer c = λ d.
    let w1 = then (through (begin rules.group_list c.args.at refl)) (c.in_ok-header.ensures.answer d) in
    exit _ c.from_residual-in_err-first.ensures.1 (refuse w1 (c.in_err-first.ensures.answer d) refl)

pub entries-init : goal.entries-init
entries-init c = (
  λ d. groups_begin refl (λ g xs. refl) c.new-done.ensures c.in_ok-last.ensures (c.in_ok-header.ensures.answer d) (c.in_ok-first.ensures.answer d),
  omega (arith, c.in_ok-header.ensures.ahead.0, c.in_ok-first.ensures.ahead.0),
  c.in_ok-first.ensures.ahead.1,
)

pub returns-in_err-entry-clause-answer : goal.returns-in_err-entry-clause-answer
returns-in_err-entry-clause-answer c = λ d.
    exit _ c.from_residual-in_err-entry.ensures.1 (groups_stop (c.entries.invariant.0 d) (sym c.is_mark.ensures.answer ∙ c.entries-test.true) (c.in_err-entry.ensures.answer d))

pub entries-preserved : goal.entries-preserved
entries-preserved c = (
  λ d. groups_more (λ g xs. refl) (λ p. refl) (c.entries.invariant.0 d) (sym c.is_mark.ensures.answer ∙ c.entries-test.true) c.in_ok-last-2.ensures.0 c.in_ok-last-2.ensures.1 (c.in_ok-entry.ensures.answer d),
  omega (arith, c.in_ok-entry.ensures.ahead.0, c.entries.invariant.1),
  c.in_ok-entry.ensures.ahead.1,
)

pub returns-clause-answer : goal.returns-clause-answer
returns-clause-answer c = λ d. groups_end (λ p. refl) (c.entries.invariant.0 d) (sym c.is_mark.ensures.answer ∙ c.entries-test.false) c.in_ok-push.ensures
