use Rattle.std.proofs.Common.{refl}
use Rattle.lv_grammar.specs.Rules as rules
use Rattle.lv_parser.proofs.Paths.{begin, through, then, last, refuse, refuse_last}
use Rattle.lv_parser.proofs.Fronts.{exit}
use Rattle.lv_parser.proofs.declarations.reg.Goals as goal

pub returns-in_err-sign-clause-answer : goal.returns-in_err-sign-clause-answer
returns-in_err-sign-clause-answer c = λ d. exit _ c.from_residual.ensures.1 (refuse (through (begin rules.reg c.args.at refl)) (c.in_err-sign.ensures.answer d) refl)

pub returns-in_err-signed-clause-answer : goal.returns-in_err-signed-clause-answer
returns-in_err-signed-clause-answer c = λ d.
    let w1 = then (through (begin rules.reg c.args.at refl)) (c.in_ok-sign.ensures.answer d) in
    exit _ c.from_residual-in_err-signed.ensures.1 (refuse w1 (c.in_err-signed.ensures.answer d) refl)

pub returns-in_err-names-clause-answer : goal.returns-in_err-names-clause-answer
returns-in_err-names-clause-answer c = λ d.
    let w1 = then (through (begin rules.reg c.args.at refl)) (c.in_ok-sign.ensures.answer d) in
    let w2 = then w1 (c.in_ok-signed.ensures.answer d) in
    exit _ c.from_residual-in_err-names.ensures.1 (refuse w2 (c.in_err-names.ensures.answer d) refl)

pub returns-in_err-end-clause-answer : goal.returns-in_err-end-clause-answer
returns-in_err-end-clause-answer c = λ d.
    let w1 = then (through (begin rules.reg c.args.at refl)) (c.in_ok-sign.ensures.answer d) in
    let w2 = then w1 (c.in_ok-signed.ensures.answer d) in
    let w3 = then w2 (c.in_ok-names.ensures.answer d) in
    exit _ c.from_residual-in_err-end.ensures.1 (refuse_last w3 (c.in_err-end.ensures.answer d))

pub returns-clause-answer : goal.returns-clause-answer
returns-clause-answer c = λ d.
    let w1 = then (through (begin rules.reg c.args.at refl)) (c.in_ok-sign.ensures.answer d) in
    let w2 = then w1 (c.in_ok-signed.ensures.answer d) in
    let w3 = then w2 (c.in_ok-names.ensures.answer d) in
    last w3 (c.in_ok-end.ensures.answer d)
