use Rattle.std.proofs.Common.{refl, sym, ◌∙◌, codes}
use Rattle.lv_grammar.specs.Shapes as shapes
use Rattle.lv_grammar.specs.Rules as rules
use Rattle.lv_parser.proofs.Paths.{begin, through, to_left, to_right, other, absent}
use Rattle.lv_parser.proofs.Carried.{carried}
use Rattle.lv_parser.proofs.conns.conns.Goals as goal

pub returns-then-is_mark-clause-answer : goal.returns-then-is_mark-clause-answer
returns-then-is_mark-clause-answer c = λ d.
    let o = other c.args.tokens.now.text c.args.tokens.now.list (rules.list rules.ordered_conn) c.args.at (shapes.mark (codes ".")) refl (sym c.is_mark.ensures.answer ∙ c.if-is_mark.true) in
    carried (to_left (through (begin rules.conns c.args.at refl)) o) c.list.result (c.list.ensures.answer d)

pub returns-else-is_mark-clause-answer : goal.returns-else-is_mark-clause-answer
returns-else-is_mark-clause-answer c = λ d.
    let o = absent c.args.tokens.now.text c.args.tokens.now.list (rules.list rules.named_conn) c.args.at (shapes.mark (codes ".")) refl (sym c.is_mark.ensures.answer ∙ c.if-is_mark.false) in
    carried (to_right (through (begin rules.conns c.args.at refl)) o) c.list-else-is_mark.result (c.list-else-is_mark.ensures.answer d)
