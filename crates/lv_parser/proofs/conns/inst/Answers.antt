use Rattle.std.proofs.Common.{refl}
use Rattle.lv_grammar.specs.Rules as rules
use Rattle.lv_parser.proofs.Paths.{begin, through, then, last, refuse, refuse_last}
use Rattle.lv_parser.proofs.Fronts.{exit}
use Rattle.lv_parser.proofs.conns.inst.Goals as goal

pub returns-in_err-name-clause-answer : goal.returns-in_err-name-clause-answer
returns-in_err-name-clause-answer c = λ d. exit _ c.from_residual.ensures.1 (refuse (through (begin rules.inst c.args.at refl)) (c.in_err-name.ensures.answer d) refl)

pub returns-in_err-inner-clause-answer : goal.returns-in_err-inner-clause-answer
returns-in_err-inner-clause-answer c = λ d.
    let w1 = then (through (begin rules.inst c.args.at refl)) (c.in_ok-name.ensures.answer d) in
    exit _ c.from_residual-in_err-inner.ensures.1 (refuse w1 (c.in_err-inner.ensures.answer d) refl)

pub returns-in_err-conns-clause-answer : goal.returns-in_err-conns-clause-answer
returns-in_err-conns-clause-answer c = λ d.
    let w1 = then (through (begin rules.inst c.args.at refl)) (c.in_ok-name.ensures.answer d) in
    let w2 = then w1 (c.in_ok-inner.ensures.answer d) in
    exit _ c.from_residual-in_err-conns.ensures.1 (refuse_last w2 (c.in_err-conns.ensures.answer d))

pub returns-clause-answer : goal.returns-clause-answer
returns-clause-answer c = λ d.
    let w1 = then (through (begin rules.inst c.args.at refl)) (c.in_ok-name.ensures.answer d) in
    let w2 = then w1 (c.in_ok-inner.ensures.answer d) in
    last w2 (c.in_ok-conns.ensures.answer d)
