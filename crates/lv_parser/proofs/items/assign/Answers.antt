use Rattle.std.proofs.Common.{refl, arith}
use Rattle.lv_grammar.specs.Rules as rules
use Rattle.lv_parser.proofs.Paths.{begin, through, then, last, refuse, refuse_in, refuse_last}
use Rattle.lv_parser.proofs.Fronts.{exit}
use Rattle.lv_parser.proofs.Rooms.{is_target, target_rooms}
use Rattle.lv_parser.proofs.items.assign.Goals as goal

pub returns-in_err-first-clause-answer : goal.returns-in_err-first-clause-answer
returns-in_err-first-clause-answer c = λ d t. exit _ c.from_residual.ensures.1 (refuse_in is_target (target_rooms t (omega arith)) (through (begin rules.assign c.args.at refl)) (c.in_err-first.ensures.answer d) refl)

pub returns-in_err-list-clause-answer : goal.returns-in_err-list-clause-answer
returns-in_err-list-clause-answer c = λ d t.
    let w1 = then (through (begin rules.assign c.args.at refl)) (c.in_ok-first.ensures.answer d) in
    exit _ c.from_residual-in_err-list.ensures.1 (refuse w1 (c.in_err-list.ensures.answer d t) refl)

pub returns-in_err-end-clause-answer : goal.returns-in_err-end-clause-answer
returns-in_err-end-clause-answer c = λ d t.
    let w1 = then (through (begin rules.assign c.args.at refl)) (c.in_ok-first.ensures.answer d) in
    let w2 = then w1 (c.in_ok-list.ensures.answer d t) in
    exit _ c.from_residual-in_err-end.ensures.1 (refuse_last w2 (c.in_err-end.ensures.answer d))

pub returns-clause-answer : goal.returns-clause-answer
returns-clause-answer c = λ d t.
    let w1 = then (through (begin rules.assign c.args.at refl)) (c.in_ok-first.ensures.answer d) in
    let w2 = then w1 (c.in_ok-list.ensures.answer d t) in
    last w2 (c.in_ok-end.ensures.answer d)
