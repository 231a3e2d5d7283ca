use Rattle.std.proofs.Common.{refl, sym, ◌∙◌}
use Rattle.lv_grammar.specs.Rules as rules
use Rattle.lv_parser.proofs.Paths.{begin, through, last, refuse_last, to_left, to_right}
use Rattle.lv_parser.proofs.Fronts.{exit}
use Rattle.lv_parser.proofs.Directions.{direction_other, direction_absent}
use Rattle.lv_parser.proofs.modules.port_list.Goals as goal

pub returns-in_err-list-clause-answer : goal.returns-in_err-list-clause-answer
returns-in_err-list-clause-answer c = λ d.
    let o = direction_other c.args.tokens.now.text c.args.tokens.now.list (rules.list rules.ident) c.args.at refl refl (sym c.is_direction.ensures ∙ c.if-is_direction.true) in
    let w = to_left (through (begin rules.port_list c.args.at refl)) o in
    exit _ c.from_residual.ensures.1 (refuse_last w (c.in_err-list.ensures.answer d))

pub returns-in_ok-list-clause-answer : goal.returns-in_ok-list-clause-answer
returns-in_ok-list-clause-answer c = λ d.
    let o = direction_other c.args.tokens.now.text c.args.tokens.now.list (rules.list rules.ident) c.args.at refl refl (sym c.is_direction.ensures ∙ c.if-is_direction.true) in
    let w = to_left (through (begin rules.port_list c.args.at refl)) o in
    last w (c.in_ok-list.ensures.answer d)

pub returns-in_err-list-2-clause-answer : goal.returns-in_err-list-2-clause-answer
returns-in_err-list-2-clause-answer c = λ d.
    let o = direction_absent c.args.tokens.now.text c.args.tokens.now.list rules.declared_ports c.args.at refl (sym c.is_direction.ensures ∙ c.if-is_direction.false) in
    let w = to_right (through (begin rules.port_list c.args.at refl)) o in
    exit _ c.from_residual-in_err-list-2.ensures.1 (refuse_last w (c.in_err-list-2.ensures.answer d))

pub returns-in_ok-list-2-clause-answer : goal.returns-in_ok-list-2-clause-answer
returns-in_ok-list-2-clause-answer c = λ d.
    let o = direction_absent c.args.tokens.now.text c.args.tokens.now.list rules.declared_ports c.args.at refl (sym c.is_direction.ensures ∙ c.if-is_direction.false) in
    let w = to_right (through (begin rules.port_list c.args.at refl)) o in
    last w (c.in_ok-list-2.ensures.answer d)
