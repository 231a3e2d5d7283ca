use Rattle.std.proofs.Common.{refl, sym, ◌∙◌, codes}
use Rattle.lv_grammars.specs.Grammar.{act, both}
use Rattle.lv_grammar.specs.Shapes as shapes
use Rattle.lv_grammar.specs.Rules as rules
use Rattle.lv_parser.proofs.Paths.{begin, through, then, last, refuse, other, absent, token_read}
use Rattle.lv_parser.proofs.Fronts.{exit}
use Rattle.lv_parser.proofs.Carried.{carried}
use Rattle.lv_parser.proofs.StatementPaths.{to_first, to_other}
use Rattle.lv_parser.proofs.items.event.Goals as goal

pub returns-then-is_mark-clause-answer : goal.returns-then-is_mark-clause-answer
returns-then-is_mark-clause-answer c = λ d.
    let e = sym c.is_mark.ensures.answer ∙ c.if-is_mark.true in
    let o = other c.args.tokens.now.text c.args.tokens.now.list (act rules.behind (both rules.opens rules.event_inside)) c.args.at (shapes.mark (codes "*")) refl e in
    last (through (to_first (begin rules.event c.args.at refl) o)) (token_read d (shapes.mark (codes "*")) c.args.at e)

pub returns-in_err-inner-clause-answer : goal.returns-in_err-inner-clause-answer
returns-in_err-inner-clause-answer c = λ d.
    let o = absent c.args.tokens.now.text c.args.tokens.now.list (act rules.star_event rules.star) c.args.at (shapes.mark (codes "*")) refl (sym c.is_mark.ensures.answer ∙ c.if-is_mark.false) in
    let w = through (to_other (begin rules.event c.args.at refl) o) in
    exit _ c.from_residual.ensures.1 (refuse w (c.in_err-inner.ensures.answer d) refl)

pub returns-clause-answer : goal.returns-clause-answer
returns-clause-answer c = λ d.
    let o = absent c.args.tokens.now.text c.args.tokens.now.list (act rules.star_event rules.star) c.args.at (shapes.mark (codes "*")) refl (sym c.is_mark.ensures.answer ∙ c.if-is_mark.false) in
    let w = through (to_other (begin rules.event c.args.at refl) o) in
    carried (then w (c.in_ok-inner.ensures.answer d)) c.event_inside.result (c.event_inside.ensures.answer d)
