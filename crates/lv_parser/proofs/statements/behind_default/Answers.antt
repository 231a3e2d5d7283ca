use Rattle.std.proofs.Common.{refl, sym, ◌∙◌, codes}
use Rattle.lv_grammar.specs.Shapes as shapes
use Rattle.lv_grammar.specs.Rules as rules
use Rattle.lv_parser.proofs.Paths.{begin, then, last, refuse, to_some, to_none, opens, absent, token_read}
use Rattle.lv_parser.proofs.StatementPaths.{exit_some}
use Rattle.lv_parser.proofs.statements.behind_default.Goals as goal

pub returns-in_err-colon-clause-answer : goal.returns-in_err-colon-clause-answer
returns-in_err-colon-clause-answer c = λ d. exit_some _ c.from_residual.ensures.1 (refuse (begin rules.default_words c.args.at refl) (c.in_err-colon.ensures.answer d) refl)

pub returns-then-is_mark-clause-answer : goal.returns-then-is_mark-clause-answer
returns-then-is_mark-clause-answer c = λ d.
    let e = sym c.is_mark.ensures.answer ∙ c.if-is_mark.true in
    let w1 = then (begin rules.default_words c.args.at refl) (c.in_ok-colon.ensures.answer d) in
    (_, last (to_some w1 (opens c.args.tokens.now.text c.args.tokens.now.list rules.colon c.in_ok-colon.colon 0 (shapes.mark (codes ":")) refl e)) (token_read d (shapes.mark (codes ":")) c.in_ok-colon.colon e))

pub returns-else-is_mark-clause-answer : goal.returns-else-is_mark-clause-answer
returns-else-is_mark-clause-answer c = λ d.
    let w1 = then (begin rules.default_words c.args.at refl) (c.in_ok-colon.ensures.answer d) in
    (_, to_none w1 (absent c.args.tokens.now.text c.args.tokens.now.list rules.colon c.in_ok-colon.colon (shapes.mark (codes ":")) refl (sym c.is_mark.ensures.answer ∙ c.if-is_mark.false)))
