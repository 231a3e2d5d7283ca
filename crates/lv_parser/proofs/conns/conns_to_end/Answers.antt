use Rattle.std.proofs.Common.{refl, sym, ◌∙◌, codes}
use Rattle.lv_grammars.specs.Grammar.{both}
use Rattle.lv_grammar.specs.Shapes as shapes
use Rattle.lv_grammar.specs.Rules as rules
use Rattle.lv_parser.proofs.Paths.{begin, through, then, last, refuse, refuse_last, to_left, to_right, other, absent, token_read}
use Rattle.lv_parser.proofs.Fronts.{exit}
use Rattle.lv_parser.proofs.Instead.{instead}
use Rattle.lv_parser.proofs.conns.conns_to_end.Goals as goal

pub returns-then-is_mark-clause-answer : goal.returns-then-is_mark-clause-answer
returns-then-is_mark-clause-answer c = λ d.
    let e = sym c.is_mark.ensures.answer ∙ c.if-is_mark.true in
    let o = other c.args.tokens.now.text c.args.tokens.now.list (both rules.conns rules.closes) c.args.at (shapes.mark (codes ")")) refl e in
    instead c.new.ensures (last (to_left (through (begin rules.conns_to_end c.args.at refl)) o) (token_read d (shapes.mark (codes ")")) c.args.at e))

pub returns-in_err-list-clause-answer : goal.returns-in_err-list-clause-answer
returns-in_err-list-clause-answer c = λ d.
    let o = absent c.args.tokens.now.text c.args.tokens.now.list rules.closes c.args.at (shapes.mark (codes ")")) refl (sym c.is_mark.ensures.answer ∙ c.if-is_mark.false) in
    let w = to_right (through (begin rules.conns_to_end c.args.at refl)) o in
    exit _ c.from_residual.ensures.1 (refuse w (c.in_err-list.ensures.answer d) refl)

pub returns-in_err-end-clause-answer : goal.returns-in_err-end-clause-answer
returns-in_err-end-clause-answer c = λ d.
    let o = absent c.args.tokens.now.text c.args.tokens.now.list rules.closes c.args.at (shapes.mark (codes ")")) refl (sym c.is_mark.ensures.answer ∙ c.if-is_mark.false) in
    let w = to_right (through (begin rules.conns_to_end c.args.at refl)) o in
    exit _ c.from_residual-in_err-end.ensures.1 (refuse_last (then w (c.in_ok-list.ensures.answer d)) (c.in_err-end.ensures.answer d))

pub returns-in_ok-end-clause-answer : goal.returns-in_ok-end-clause-answer
returns-in_ok-end-clause-answer c = λ d.
    let o = absent c.args.tokens.now.text c.args.tokens.now.list rules.closes c.args.at (shapes.mark (codes ")")) refl (sym c.is_mark.ensures.answer ∙ c.if-is_mark.false) in
    let w = to_right (through (begin rules.conns_to_end c.args.at refl)) o in
    last (then w (c.in_ok-list.ensures.answer d)) (c.in_ok-end.ensures.answer d)
