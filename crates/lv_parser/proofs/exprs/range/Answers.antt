use Rattle.std.proofs.Common.{refl}
use Rattle.lv_grammar.specs.Rules as rules
use Rattle.lv_parser.proofs.Paths.{begin, through, then, last, refuse, refuse_last}
use Rattle.lv_parser.proofs.Fronts.{exit}
use Rattle.lv_parser.proofs.exprs.range.Goals as goal

pub returns-in_err-first-clause-answer : goal.returns-in_err-first-clause-answer
returns-in_err-first-clause-answer c = λ d. exit _ c.from_residual.ensures.1 (refuse (through (begin rules.range c.args.at refl)) (c.in_err-first.ensures.answer d) refl)

pub returns-in_err-left-clause-answer : goal.returns-in_err-left-clause-answer
returns-in_err-left-clause-answer c = λ d.
    let w1 = then (through (begin rules.range c.args.at refl)) (c.in_ok-first.ensures.answer d) in
    exit _ c.from_residual-in_err-left.ensures.1 (refuse w1 (c.in_err-left.ensures.answer d) refl)

pub returns-in_err-second-clause-answer : goal.returns-in_err-second-clause-answer
returns-in_err-second-clause-answer c = λ d.
    let w1 = then (through (begin rules.range c.args.at refl)) (c.in_ok-first.ensures.answer d) in
    let w2 = then w1 (c.in_ok-left.ensures.answer d) in
    exit _ c.from_residual-in_err-second.ensures.1 (refuse w2 (c.in_err-second.ensures.answer d) refl)

pub returns-in_err-right-clause-answer : goal.returns-in_err-right-clause-answer
returns-in_err-right-clause-answer c = λ d.
    let w1 = then (through (begin rules.range c.args.at refl)) (c.in_ok-first.ensures.answer d) in
    let w2 = then w1 (c.in_ok-left.ensures.answer d) in
    let w3 = then w2 (c.in_ok-second.ensures.answer d) in
    exit _ c.from_residual-in_err-right.ensures.1 (refuse w3 (c.in_err-right.ensures.answer d) refl)

pub returns-in_err-end-clause-answer : goal.returns-in_err-end-clause-answer
returns-in_err-end-clause-answer c = λ d.
    let w1 = then (through (begin rules.range c.args.at refl)) (c.in_ok-first.ensures.answer d) in
    let w2 = then w1 (c.in_ok-left.ensures.answer d) in
    let w3 = then w2 (c.in_ok-second.ensures.answer d) in
    let w4 = then w3 (c.in_ok-right.ensures.answer d) in
    exit _ c.from_residual-in_err-end.ensures.1 (refuse_last w4 (c.in_err-end.ensures.answer d))

pub returns-clause-answer : goal.returns-clause-answer
returns-clause-answer c = λ d.
    let w1 = then (through (begin rules.range c.args.at refl)) (c.in_ok-first.ensures.answer d) in
    let w2 = then w1 (c.in_ok-left.ensures.answer d) in
    let w3 = then w2 (c.in_ok-second.ensures.answer d) in
    let w4 = then w3 (c.in_ok-right.ensures.answer d) in
    last w4 (c.in_ok-end.ensures.answer d)
