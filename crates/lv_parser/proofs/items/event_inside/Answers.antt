use Rattle.std.proofs.Common.{refl, sym, ◌∙◌, codes}
use Rattle.lv_grammar.specs.Shapes as shapes
use Rattle.lv_grammar.specs.Rules as rules
use Rattle.lv_parser.proofs.Paths.{begin, other, absent}
use Rattle.lv_parser.proofs.StatementPaths.{carried, to_first, to_other}
use Rattle.lv_parser.proofs.items.event_inside.Goals as goal

pub returns-then-is_mark-clause-answer : goal.returns-then-is_mark-clause-answer
returns-then-is_mark-clause-answer c = λ d.
    let o = other c.args.tokens.now.text c.args.tokens.now.list rules.edge c.args.at (shapes.mark (codes "*")) refl (sym c.is_mark.ensures.answer ∙ c.if-is_mark.true) in
    carried c.star.result (to_first (begin rules.event_inside c.args.at refl) o) (c.star.ensures.answer d)

pub returns-else-is_mark-clause-answer : goal.returns-else-is_mark-clause-answer
returns-else-is_mark-clause-answer c = λ d.
    let o = absent c.args.tokens.now.text c.args.tokens.now.list rules.closed_star c.args.at (shapes.mark (codes "*")) refl (sym c.is_mark.ensures.answer ∙ c.if-is_mark.false) in
    carried c.edge.result (to_other (begin rules.event_inside c.args.at refl) o) (c.edge.ensures.answer d)
