use Rattle.std.proofs.Common.{refl}
use Rattle.lv_grammar.specs.Rules as rules
use Rattle.lv_parser.proofs.Paths.{begin, through, then, last, refuse, refuse_last}
use Rattle.lv_parser.proofs.Fronts.{exit}
use Rattle.lv_parser.proofs.statements.loop_head.Goals as goal

pub returns-in_err-index-clause-answer : goal.returns-in_err-index-clause-answer
returns-in_err-index-clause-answer c = λ d.
    let w0 = through (begin rules.loop_head c.args.at refl) in
    exit _ c.from_residual.ensures.1 (refuse w0 (c.in_err-index.ensures.answer d) refl)

pub returns-in_err-again-clause-answer : goal.returns-in_err-again-clause-answer
returns-in_err-again-clause-answer c = λ d.
    let w0 = through (begin rules.loop_head c.args.at refl) in
    let w1 = then w0 (c.in_ok-index.ensures.answer d) in
    exit _ c.from_residual-in_err-again.ensures.1 (refuse w1 (c.in_err-again.ensures.answer d) refl)

pub returns-in_err-right-clause-answer : goal.returns-in_err-right-clause-answer
returns-in_err-right-clause-answer c = λ d.
    let w0 = through (begin rules.loop_head c.args.at refl) in
    let w1 = then w0 (c.in_ok-index.ensures.answer d) in
    let w2 = then w1 (c.in_ok-again.ensures.answer d) in
    exit _ c.from_residual-in_err-right.ensures.1 (refuse w2 (c.in_err-right.ensures.answer d) refl)

pub returns-in_err-next-clause-answer : goal.returns-in_err-next-clause-answer
returns-in_err-next-clause-answer c = λ d.
    let w0 = through (begin rules.loop_head c.args.at refl) in
    let w1 = then w0 (c.in_ok-index.ensures.answer d) in
    let w2 = then w1 (c.in_ok-again.ensures.answer d) in
    let w3 = then w2 (c.in_ok-right.ensures.answer d) in
    exit _ c.from_residual-in_err-next.ensures.1 (refuse w3 (c.in_err-next.ensures.answer d) refl)

pub returns-in_err-end-clause-answer : goal.returns-in_err-end-clause-answer
returns-in_err-end-clause-answer c = λ d.
    let w0 = through (begin rules.loop_head c.args.at refl) in
    let w1 = then w0 (c.in_ok-index.ensures.answer d) in
    let w2 = then w1 (c.in_ok-again.ensures.answer d) in
    let w3 = then w2 (c.in_ok-right.ensures.answer d) in
    let w4 = then w3 (c.in_ok-next.ensures.answer d) in
    exit _ c.from_residual-in_err-end.ensures.1 (refuse_last w4 (c.in_err-end.ensures.answer d))

pub returns-clause-answer : goal.returns-clause-answer
returns-clause-answer c = λ d.
    let w0 = through (begin rules.loop_head c.args.at refl) in
    let w1 = then w0 (c.in_ok-index.ensures.answer d) in
    let w2 = then w1 (c.in_ok-again.ensures.answer d) in
    let w3 = then w2 (c.in_ok-right.ensures.answer d) in
    let w4 = then w3 (c.in_ok-next.ensures.answer d) in
    last w4 (c.in_ok-end.ensures.answer d)
