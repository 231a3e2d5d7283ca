use Rattle.std.proofs.Common.{refl}
use Rattle.lv_grammar.specs.Rules as rules
use Rattle.lv_parser.proofs.Paths.{begin, through, then, last, refuse, refuse_last}
use Rattle.lv_parser.proofs.Fronts.{exit}
use Rattle.lv_parser.proofs.statements.begins_loop.Goals as goal

pub returns-in_err-open-clause-answer : goal.returns-in_err-open-clause-answer
returns-in_err-open-clause-answer c = λ d.
    let w0 = through (begin rules.loop_start c.args.at refl) in
    exit _ c.from_residual.ensures.1 (refuse w0 (c.in_err-open.ensures.answer d) refl)

pub returns-in_err-name-clause-answer : goal.returns-in_err-name-clause-answer
returns-in_err-name-clause-answer c = λ d.
    let w0 = through (begin rules.loop_start c.args.at refl) in
    let w1 = then w0 (c.in_ok-open.ensures.answer d) in
    exit _ c.from_residual-in_err-name.ensures.1 (refuse w1 (c.in_err-name.ensures.answer d) refl)

pub returns-in_err-index-clause-answer : goal.returns-in_err-index-clause-answer
returns-in_err-index-clause-answer c = λ d.
    let w0 = through (begin rules.loop_start c.args.at refl) in
    let w1 = then w0 (c.in_ok-open.ensures.answer d) in
    let w2 = then w1 (c.in_ok-name.ensures.answer d) in
    exit _ c.from_residual-in_err-index.ensures.1 (refuse w2 (c.in_err-index.ensures.answer d) refl)

pub returns-in_err-first-clause-answer : goal.returns-in_err-first-clause-answer
returns-in_err-first-clause-answer c = λ d.
    let w0 = through (begin rules.loop_start c.args.at refl) in
    let w1 = then w0 (c.in_ok-open.ensures.answer d) in
    let w2 = then w1 (c.in_ok-name.ensures.answer d) in
    let w3 = then w2 (c.in_ok-index.ensures.answer d) in
    exit _ c.from_residual-in_err-first.ensures.1 (refuse w3 (c.in_err-first.ensures.answer d) refl)

pub returns-in_err-start-clause-answer : goal.returns-in_err-start-clause-answer
returns-in_err-start-clause-answer c = λ d.
    let w0 = through (begin rules.loop_start c.args.at refl) in
    let w1 = then w0 (c.in_ok-open.ensures.answer d) in
    let w2 = then w1 (c.in_ok-name.ensures.answer d) in
    let w3 = then w2 (c.in_ok-index.ensures.answer d) in
    let w4 = then w3 (c.in_ok-first.ensures.answer d) in
    exit _ c.from_residual-in_err-start.ensures.1 (refuse w4 (c.in_err-start.ensures.answer d) refl)

pub returns-in_err-second-clause-answer : goal.returns-in_err-second-clause-answer
returns-in_err-second-clause-answer c = λ d.
    let w0 = through (begin rules.loop_start c.args.at refl) in
    let w1 = then w0 (c.in_ok-open.ensures.answer d) in
    let w2 = then w1 (c.in_ok-name.ensures.answer d) in
    let w3 = then w2 (c.in_ok-index.ensures.answer d) in
    let w4 = then w3 (c.in_ok-first.ensures.answer d) in
    let w5 = then w4 (c.in_ok-start.ensures.answer d) in
    exit _ c.from_residual-in_err-second.ensures.1 (refuse w5 (c.in_err-second.ensures.answer d) refl)

pub returns-in_err-test-clause-answer : goal.returns-in_err-test-clause-answer
returns-in_err-test-clause-answer c = λ d.
    let w0 = through (begin rules.loop_start c.args.at refl) in
    let w1 = then w0 (c.in_ok-open.ensures.answer d) in
    let w2 = then w1 (c.in_ok-name.ensures.answer d) in
    let w3 = then w2 (c.in_ok-index.ensures.answer d) in
    let w4 = then w3 (c.in_ok-first.ensures.answer d) in
    let w5 = then w4 (c.in_ok-start.ensures.answer d) in
    let w6 = then w5 (c.in_ok-second.ensures.answer d) in
    exit _ c.from_residual-in_err-test.ensures.1 (refuse w6 (c.in_err-test.ensures.answer d) refl)

pub returns-in_err-end-clause-answer : goal.returns-in_err-end-clause-answer
returns-in_err-end-clause-answer c = λ d.
    let w0 = through (begin rules.loop_start c.args.at refl) in
    let w1 = then w0 (c.in_ok-open.ensures.answer d) in
    let w2 = then w1 (c.in_ok-name.ensures.answer d) in
    let w3 = then w2 (c.in_ok-index.ensures.answer d) in
    let w4 = then w3 (c.in_ok-first.ensures.answer d) in
    let w5 = then w4 (c.in_ok-start.ensures.answer d) in
    let w6 = then w5 (c.in_ok-second.ensures.answer d) in
    let w7 = then w6 (c.in_ok-test.ensures.answer d) in
    exit _ c.from_residual-in_err-end.ensures.1 (refuse_last w7 (c.in_err-end.ensures.answer d))

pub returns-clause-answer : goal.returns-clause-answer
returns-clause-answer c = λ d.
    let w0 = through (begin rules.loop_start c.args.at refl) in
    let w1 = then w0 (c.in_ok-open.ensures.answer d) in
    let w2 = then w1 (c.in_ok-name.ensures.answer d) in
    let w3 = then w2 (c.in_ok-index.ensures.answer d) in
    let w4 = then w3 (c.in_ok-first.ensures.answer d) in
    let w5 = then w4 (c.in_ok-start.ensures.answer d) in
    let w6 = then w5 (c.in_ok-second.ensures.answer d) in
    let w7 = then w6 (c.in_ok-test.ensures.answer d) in
    last w7 (c.in_ok-end.ensures.answer d)
