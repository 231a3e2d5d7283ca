use Rattle.std.proofs.Common.{refl, subst}
use Rattle.lv_grammar.specs.Rules as rules
use Rattle.lv_parser.specs.Answers.{IsRead}
use Rattle.lv_parser.proofs.Paths.{begin, through, then, last, refuse, refuse_last}
use Rattle.lv_parser.proofs.Fronts.{exit}
use Rattle.lv_parser.proofs.StatementPaths.{later_by, now_by}
use Rattle.lv_parser.proofs.statements.assignment.Goals as goal

pub returns-in_err-target-clause-answer : goal.returns-in_err-target-clause-answer
returns-in_err-target-clause-answer c = λ d h.
    let w0 = through (begin rules.assignment c.args.at refl) in
    exit _ c.from_residual.ensures.1 (refuse w0 (c.in_err-target.ensures.answer d h) refl)

pub returns-in_err-later-clause-answer : goal.returns-in_err-later-clause-answer
returns-in_err-later-clause-answer c = λ d h.
    let w0 = through (begin rules.assignment c.args.at refl) in
    let w1 = then w0 (c.in_ok-target.ensures.answer d h) in
    exit _ c.from_residual-in_err-later.ensures.1 (refuse w1 (c.in_err-later.ensures.answer d) refl)

pub returns-in_err-value-clause-answer : goal.returns-in_err-value-clause-answer
returns-in_err-value-clause-answer c = λ d h.
    let w0 = through (begin rules.assignment c.args.at refl) in
    let w1 = then w0 (c.in_ok-target.ensures.answer d h) in
    let w2 = then w1 (c.in_ok-later.ensures.answer d) in
    exit _ c.from_residual-in_err-value.ensures.1 (refuse w2 (c.in_err-value.ensures.answer d) refl)

pub returns-in_err-end-clause-answer : goal.returns-in_err-end-clause-answer
returns-in_err-end-clause-answer c = λ d h.
    let w0 = through (begin rules.assignment c.args.at refl) in
    let w1 = then w0 (c.in_ok-target.ensures.answer d h) in
    let w2 = then w1 (c.in_ok-later.ensures.answer d) in
    let w3 = then w2 (c.in_ok-value.ensures.answer d) in
    exit _ c.from_residual-in_err-end.ensures.1 (refuse_last w3 (c.in_err-end.ensures.answer d))

pub returns-then-later-clause-answer : goal.returns-then-later-clause-answer
returns-then-later-clause-answer c = λ d h.
    let w0 = through (begin rules.assignment c.args.at refl) in
    let w1 = then w0 (c.in_ok-target.ensures.answer d h) in
    let w2 = then w1 (c.in_ok-later.ensures.answer d) in
    let w3 = then w2 (c.in_ok-value.ensures.answer d) in
    subst (λ s. IsRead c.args.tokens.now.text c.args.tokens.now.list d rules.assignment c.args.at s c.in_ok-end.end) (later_by c.args.tokens.now.text c.args.tokens.now.list c.args.at c.if-later.true c.place-place.ensures) (last w3 (c.in_ok-end.ensures.answer d))

pub returns-else-later-clause-answer : goal.returns-else-later-clause-answer
returns-else-later-clause-answer c = λ d h.
    let w0 = through (begin rules.assignment c.args.at refl) in
    let w1 = then w0 (c.in_ok-target.ensures.answer d h) in
    let w2 = then w1 (c.in_ok-later.ensures.answer d) in
    let w3 = then w2 (c.in_ok-value.ensures.answer d) in
    subst (λ s. IsRead c.args.tokens.now.text c.args.tokens.now.list d rules.assignment c.args.at s c.in_ok-end.end) (now_by c.args.tokens.now.text c.args.tokens.now.list c.args.at c.if-later.false c.place-place.ensures) (last w3 (c.in_ok-end.ensures.answer d))
