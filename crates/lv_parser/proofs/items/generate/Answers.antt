use Rattle.std.proofs.Common.{refl}
use Rattle.lv_grammar.specs.Rules as rules
use Rattle.lv_parser.proofs.Paths.{begin, through, then, last, refuse, refuse_last}
use Rattle.lv_parser.proofs.Fronts.{exit}
use Rattle.lv_parser.proofs.items.generate.Goals as goal

pub returns-in_err-first-clause-answer : goal.returns-in_err-first-clause-answer
returns-in_err-first-clause-answer c = λ d t s i. exit _ c.from_residual.ensures.1 (refuse (through (begin rules.generate c.args.at refl)) (c.in_err-first.ensures.answer d) refl)

pub returns-in_err-list-clause-answer : goal.returns-in_err-list-clause-answer
returns-in_err-list-clause-answer c = λ d t s i.
    let w1 = then (through (begin rules.generate c.args.at refl)) (c.in_ok-first.ensures.answer d) in
    exit _ c.from_residual-in_err-list.ensures.1 (refuse_last w1 (c.in_err-list.ensures.answer d t s i))

pub returns-clause-answer : goal.returns-clause-answer
returns-clause-answer c = λ d t s i.
    let w1 = then (through (begin rules.generate c.args.at refl)) (c.in_ok-first.ensures.answer d) in
    last w1 (c.in_ok-list.ensures.answer d t s i)
