use Rattle.std.proofs.Common.{refl}
use Rattle.lv_grammar.specs.Rules as rules
use Rattle.lv_parser.proofs.Paths.{begin, through, then, last, refuse, refuse_last}
use Rattle.lv_parser.proofs.Fronts.{exit}
use Rattle.lv_parser.proofs.declarations.reg_name.Goals as goal

pub returns-in_err-name-clause-answer : goal.returns-in_err-name-clause-answer
returns-in_err-name-clause-answer c = λ d. exit _ c.from_residual.ensures.1 (refuse (through (begin rules.reg_name c.args.at refl)) (c.in_err-name.ensures.answer d) refl)

pub returns-in_err-bounds-clause-answer : goal.returns-in_err-bounds-clause-answer
returns-in_err-bounds-clause-answer c = λ d.
    let w1 = then (through (begin rules.reg_name c.args.at refl)) (c.in_ok-name.ensures.answer d) in
    exit _ c.from_residual-in_err-bounds.ensures.1 (refuse_last w1 (c.in_err-bounds.ensures.answer d))

pub returns-clause-answer : goal.returns-clause-answer
returns-clause-answer c = λ d.
    let w1 = then (through (begin rules.reg_name c.args.at refl)) (c.in_ok-name.ensures.answer d) in
    last w1 (c.in_ok-bounds.ensures.answer d)
