use Rattle.std.proofs.Common.{refl}
use Rattle.lv_grammar.specs.Rules as rules
use Rattle.lv_parser.proofs.Paths.{begin, through, then, last, refuse, refuse_last}
use Rattle.lv_parser.proofs.Fronts.{exit}
use Rattle.lv_parser.proofs.modules.module.Goals as goal

pub returns-in_err-first-clause-answer : goal.returns-in_err-first-clause-answer
returns-in_err-first-clause-answer c = λ d t s i. exit _ c.from_residual.ensures.1 (refuse (through (begin rules.module_rule c.args.at refl)) (c.in_err-first.ensures.answer d) refl)

pub returns-in_err-name-clause-answer : goal.returns-in_err-name-clause-answer
returns-in_err-name-clause-answer c = λ d t s i.
    let w1 = then (through (begin rules.module_rule c.args.at refl)) (c.in_ok-first.ensures.answer d) in
    exit _ c.from_residual-in_err-name.ensures.1 (refuse w1 (c.in_err-name.ensures.answer d) refl)

pub returns-in_err-params-clause-answer : goal.returns-in_err-params-clause-answer
returns-in_err-params-clause-answer c = λ d t s i.
    let w1 = then (through (begin rules.module_rule c.args.at refl)) (c.in_ok-first.ensures.answer d) in
    let w2 = then w1 (c.in_ok-name.ensures.answer d) in
    exit _ c.from_residual-in_err-params.ensures.1 (refuse w2 (c.in_err-params.ensures.answer d) refl)

pub returns-in_err-ports-clause-answer : goal.returns-in_err-ports-clause-answer
returns-in_err-ports-clause-answer c = λ d t s i.
    let w1 = then (through (begin rules.module_rule c.args.at refl)) (c.in_ok-first.ensures.answer d) in
    let w2 = then w1 (c.in_ok-name.ensures.answer d) in
    let w3 = then w2 (c.in_ok-params.ensures.answer d) in
    exit _ c.from_residual-in_err-ports.ensures.1 (refuse w3 (c.in_err-ports.ensures.answer d) refl)

pub returns-in_err-inner-clause-answer : goal.returns-in_err-inner-clause-answer
returns-in_err-inner-clause-answer c = λ d t s i.
    let w1 = then (through (begin rules.module_rule c.args.at refl)) (c.in_ok-first.ensures.answer d) in
    let w2 = then w1 (c.in_ok-name.ensures.answer d) in
    let w3 = then w2 (c.in_ok-params.ensures.answer d) in
    let w4 = then w3 (c.in_ok-ports.ensures.answer d) in
    exit _ c.from_residual-in_err-inner.ensures.1 (refuse w4 (c.in_err-inner.ensures.answer d) refl)

pub returns-in_err-items-clause-answer : goal.returns-in_err-items-clause-answer
returns-in_err-items-clause-answer c = λ d t s i.
    let w1 = then (through (begin rules.module_rule c.args.at refl)) (c.in_ok-first.ensures.answer d) in
    let w2 = then w1 (c.in_ok-name.ensures.answer d) in
    let w3 = then w2 (c.in_ok-params.ensures.answer d) in
    let w4 = then w3 (c.in_ok-ports.ensures.answer d) in
    let w5 = then w4 (c.in_ok-inner.ensures.answer d) in
    exit _ c.from_residual-in_err-items.ensures.1 (refuse_last w5 (c.in_err-items.ensures.answer d t s i))

pub returns-clause-answer : goal.returns-clause-answer
returns-clause-answer c = λ d t s i.
    let w1 = then (through (begin rules.module_rule c.args.at refl)) (c.in_ok-first.ensures.answer d) in
    let w2 = then w1 (c.in_ok-name.ensures.answer d) in
    let w3 = then w2 (c.in_ok-params.ensures.answer d) in
    let w4 = then w3 (c.in_ok-ports.ensures.answer d) in
    let w5 = then w4 (c.in_ok-inner.ensures.answer d) in
    last w5 (c.in_ok-items.ensures.answer d t s i)
