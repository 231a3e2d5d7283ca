use Rattle.std.proofs.Common.{refl, sym, ◌∙◌, codes}
use Rattle.lv_grammar.specs.Shapes as shapes
use Rattle.lv_grammar.specs.Rules as rules
use Rattle.lv_parser.proofs.Paths.{begin, through, to_some, to_none, opens, absent}
use Rattle.lv_parser.proofs.Carried.{carried}
use Rattle.lv_parser.proofs.Instead.{instead}
use Rattle.lv_parser.proofs.modules.module_params.Goals as goal

pub returns-then-is_mark-clause-answer : goal.returns-then-is_mark-clause-answer
returns-then-is_mark-clause-answer c = λ d.
    let o = opens c.args.tokens.now.text c.args.tokens.now.list (rules.hash rules.group_list) c.args.at 0 (shapes.mark (codes "#")) refl (sym c.is_mark.ensures.answer ∙ c.if-is_mark.true) in
    carried (to_some (through (begin rules.module_params c.args.at refl)) o) c.params_in_parens.result (c.params_in_parens.ensures.answer d)

pub returns-else-is_mark-clause-answer : goal.returns-else-is_mark-clause-answer
returns-else-is_mark-clause-answer c = λ d.
    let o = absent c.args.tokens.now.text c.args.tokens.now.list (rules.hash rules.group_list) c.args.at (shapes.mark (codes "#")) refl (sym c.is_mark.ensures.answer ∙ c.if-is_mark.false) in
    instead c.new.ensures (to_none (through (begin rules.module_params c.args.at refl)) o)
