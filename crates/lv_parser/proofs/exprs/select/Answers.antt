use Rattle.std.proofs.Common.{refl}
use Rattle.lv_grammar.specs.Rules as rules
use Rattle.lv_parser.proofs.Paths.{begin, through, then, last, refuse, refuse_last}
use Rattle.lv_parser.proofs.Fronts.{exit}
use Rattle.lv_parser.proofs.Instead.{instead}
use Rattle.lv_parser.proofs.exprs.select.Goals as goal

pub returns-in_err-first-clause-answer : goal.returns-in_err-first-clause-answer
returns-in_err-first-clause-answer c = λ d. exit _ c.from_residual.ensures.1 (refuse (through (begin rules.selected c.args.at refl)) (c.in_err-first.ensures.answer d) refl)

pub returns-in_err-left-clause-answer : goal.returns-in_err-left-clause-answer
returns-in_err-left-clause-answer c = λ d.
    let w1 = then (through (begin rules.selected c.args.at refl)) (c.in_ok-first.ensures.answer d) in
    exit _ c.from_residual-in_err-left.ensures.1 (refuse w1 (c.in_err-left.ensures.answer d) refl)

pub returns-in_err-span-clause-answer : goal.returns-in_err-span-clause-answer
returns-in_err-span-clause-answer c = λ d.
    let w1 = then (through (begin rules.selected c.args.at refl)) (c.in_ok-first.ensures.answer d) in
    let w2 = then w1 (c.in_ok-left.ensures.answer d) in
    exit _ c.from_residual-in_err-span.ensures.1 (refuse_last w2 (c.in_err-span.ensures.answer d))

pub returns-clause-answer : goal.returns-clause-answer
returns-clause-answer c = λ d.
    let w1 = then (through (begin rules.selected c.args.at refl)) (c.in_ok-first.ensures.answer d) in
    let w2 = then w1 (c.in_ok-left.ensures.answer d) in
    instead c.in_ok-chosen.ensures (last w2 (c.in_ok-span.ensures.answer d))
