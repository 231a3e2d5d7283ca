use Rattle.std.proofs.Common.{refl, sym, ◌∙◌, codes}
use Rattle.lv_grammar.specs.Shapes as shapes
use Rattle.lv_grammar.specs.Rules as rules
use Rattle.lv_grammars.specs.Grammar.{both}
use Rattle.lv_parser.proofs.Paths.{begin, through, then, last, refuse, refuse_last, to_some, to_none, opens, absent, token_read}
use Rattle.lv_parser.proofs.Fronts.{exit}
use Rattle.lv_parser.proofs.declarations.net_name.Goals as goal

pub returns-in_err-name-clause-answer : goal.returns-in_err-name-clause-answer
returns-in_err-name-clause-answer c = λ d. exit _ c.from_residual.ensures.1 (refuse (through (begin rules.net_name c.args.at refl)) (c.in_err-name.ensures.answer d) refl)

pub returns-in_err-value-clause-answer : goal.returns-in_err-value-clause-answer
returns-in_err-value-clause-answer c = λ d.
    let w1 = then (through (begin rules.net_name c.args.at refl)) (c.in_ok-name.ensures.answer d) in
    let n = sym c.is_mark.ensures.answer ∙ c.if-is_mark.true in
    let o = opens c.args.tokens.now.text c.args.tokens.now.list (both rules.equals rules.value) c.in_ok-name.equals 0 (shapes.mark (codes "=")) refl n in
    let w2 = then (to_some w1 o) (token_read d (shapes.mark (codes "=")) c.in_ok-name.equals n) in
    exit _ c.from_residual-in_err-value.ensures.1 (refuse_last w2 (c.in_err-value.ensures.answer d))

pub returns-in_ok-value-clause-answer : goal.returns-in_ok-value-clause-answer
returns-in_ok-value-clause-answer c = λ d.
    let w1 = then (through (begin rules.net_name c.args.at refl)) (c.in_ok-name.ensures.answer d) in
    let n = sym c.is_mark.ensures.answer ∙ c.if-is_mark.true in
    let o = opens c.args.tokens.now.text c.args.tokens.now.list (both rules.equals rules.value) c.in_ok-name.equals 0 (shapes.mark (codes "=")) refl n in
    let w2 = then (to_some w1 o) (token_read d (shapes.mark (codes "=")) c.in_ok-name.equals n) in
    last w2 (c.in_ok-value.ensures.answer d)

pub returns-else-is_mark-clause-answer : goal.returns-else-is_mark-clause-answer
returns-else-is_mark-clause-answer c = λ d.
    let w1 = then (through (begin rules.net_name c.args.at refl)) (c.in_ok-name.ensures.answer d) in
    to_none w1
    (absent c.args.tokens.now.text c.args.tokens.now.list (both rules.equals rules.value) c.in_ok-name.equals (shapes.mark (codes "=")) refl (sym c.is_mark.ensures.answer ∙ c.if-is_mark.false))
