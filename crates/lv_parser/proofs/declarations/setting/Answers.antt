use Rattle.std.proofs.Common.{refl}
use Rattle.lv_grammar.specs.Rules as rules
use Rattle.lv_parser.proofs.Paths.{begin, through, then, last, refuse, refuse_last}
use Rattle.lv_parser.proofs.Fronts.{exit}
use Rattle.lv_parser.proofs.declarations.setting.Goals as goal

pub returns-in_err-name-clause-answer : goal.returns-in_err-name-clause-answer
returns-in_err-name-clause-answer c = λ d. exit _ c.from_residual.ensures.1 (refuse (through (begin rules.setting c.args.at refl)) (c.in_err-name.ensures.answer d) refl)

pub returns-in_err-right-clause-answer : goal.returns-in_err-right-clause-answer
returns-in_err-right-clause-answer c = λ d.
    let w1 = then (through (begin rules.setting c.args.at refl)) (c.in_ok-name.ensures.answer d) in
    exit _ c.from_residual-in_err-right.ensures.1 (refuse w1 (c.in_err-right.ensures.answer d) refl)

pub returns-in_err-value-clause-answer : goal.returns-in_err-value-clause-answer
returns-in_err-value-clause-answer c = λ d.
    let w1 = then (through (begin rules.setting c.args.at refl)) (c.in_ok-name.ensures.answer d) in
    let w2 = then w1 (c.in_ok-right.ensures.answer d) in
    exit _ c.from_residual-in_err-value.ensures.1 (refuse_last w2 (c.in_err-value.ensures.answer d))

pub returns-clause-answer : goal.returns-clause-answer
returns-clause-answer c = λ d.
    let w1 = then (through (begin rules.setting c.args.at refl)) (c.in_ok-name.ensures.answer d) in
    let w2 = then w1 (c.in_ok-right.ensures.answer d) in
    last w2 (c.in_ok-value.ensures.answer d)
