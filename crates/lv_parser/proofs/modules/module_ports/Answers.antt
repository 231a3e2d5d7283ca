use Rattle.std.proofs.Common.{refl, sym, ◌∙◌, codes}
use Rattle.lv_grammars.specs.Grammar.{both}
use Rattle.lv_grammar.specs.Shapes as shapes
use Rattle.lv_grammar.specs.Rules as rules
use Rattle.lv_parser.proofs.Paths.{begin, through, then, to_some, to_none, opens, absent, token_read}
use Rattle.lv_parser.proofs.Carried.{carried}
use Rattle.lv_parser.proofs.modules.module_ports.Goals as goal

pub returns-then-is_mark-clause-answer : goal.returns-then-is_mark-clause-answer
returns-then-is_mark-clause-answer c = λ d.
    let e = sym c.is_mark.ensures.answer ∙ c.if-is_mark.true in
    let o = opens c.args.tokens.now.text c.args.tokens.now.list (both rules.opens rules.ports_to_end) c.args.at 0 (shapes.mark (codes "(")) refl e in
    carried (then (to_some (through (begin rules.module_ports c.args.at refl)) o) (token_read d (shapes.mark (codes "(")) c.args.at e)) c.ports_to_end.result (c.ports_to_end.ensures.answer d)

pub returns-else-is_mark-clause-answer : goal.returns-else-is_mark-clause-answer
returns-else-is_mark-clause-answer c = λ d.
    let o = absent c.args.tokens.now.text c.args.tokens.now.list (both rules.opens rules.ports_to_end) c.args.at (shapes.mark (codes "(")) refl (sym c.is_mark.ensures.answer ∙ c.if-is_mark.false) in
    to_none (through (begin rules.module_ports c.args.at refl)) o
