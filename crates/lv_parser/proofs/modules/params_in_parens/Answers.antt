use Rattle.std.proofs.Common.{refl}
use Rattle.lv_grammar.specs.Rules as rules
use Rattle.lv_parser.proofs.Paths.{begin, through, then, last, refuse, refuse_last}
use Rattle.lv_parser.proofs.Fronts.{exit}
use Rattle.lv_parser.proofs.modules.params_in_parens.Goals as goal

pub returns-in_err-open-clause-answer : goal.returns-in_err-open-clause-answer
returns-in_err-open-clause-answer c = λ d. exit _ c.from_residual.ensures.1 (refuse (through (begin (rules.hash rules.group_list) c.args.at refl)) (c.in_err-open.ensures.answer d) refl)

pub returns-in_err-inner-clause-answer : goal.returns-in_err-inner-clause-answer
returns-in_err-inner-clause-answer c = λ d.
    let w1 = then (through (begin (rules.hash rules.group_list) c.args.at refl)) (c.in_ok-open.ensures.answer d) in
    exit _ c.from_residual-in_err-inner.ensures.1 (refuse w1 (c.in_err-inner.ensures.answer d) refl)

pub returns-in_err-list-clause-answer : goal.returns-in_err-list-clause-answer
returns-in_err-list-clause-answer c = λ d.
    let w1 = then (through (begin (rules.hash rules.group_list) c.args.at refl)) (c.in_ok-open.ensures.answer d) in
    let w2 = then w1 (c.in_ok-inner.ensures.answer d) in
    exit _ c.from_residual-in_err-list.ensures.1 (refuse w2 (c.in_err-list.ensures.answer d) refl)

pub returns-in_err-end-clause-answer : goal.returns-in_err-end-clause-answer
returns-in_err-end-clause-answer c = λ d.
    let w1 = then (through (begin (rules.hash rules.group_list) c.args.at refl)) (c.in_ok-open.ensures.answer d) in
    let w2 = then w1 (c.in_ok-inner.ensures.answer d) in
    let w3 = then w2 (c.in_ok-list.ensures.answer d) in
    exit _ c.from_residual-in_err-end.ensures.1 (refuse_last w3 (c.in_err-end.ensures.answer d))

pub returns-clause-answer : goal.returns-clause-answer
returns-clause-answer c = λ d.
    let w1 = then (through (begin (rules.hash rules.group_list) c.args.at refl)) (c.in_ok-open.ensures.answer d) in
    let w2 = then w1 (c.in_ok-inner.ensures.answer d) in
    let w3 = then w2 (c.in_ok-list.ensures.answer d) in
    last w3 (c.in_ok-end.ensures.answer d)
