use Rattle.std.proofs.Common.{refl, sym, ◌∙◌, codes}
use Rattle.lv_grammars.specs.Grammar.{both}
use Rattle.lv_grammar.specs.Shapes as shapes
use Rattle.lv_grammar.specs.Rules as rules
use Rattle.lv_parser.proofs.Paths.{begin, through, then, last, refuse_last, to_some, to_none, opens, absent, token_read}
use Rattle.lv_parser.proofs.Fronts.{exit}
use Rattle.lv_parser.proofs.statements.block_name.Goals as goal

pub returns-in_err-name-clause-answer : goal.returns-in_err-name-clause-answer
returns-in_err-name-clause-answer c = λ d.
    let e = sym c.is_mark.ensures.answer ∙ c.if-is_mark.true in
    let w1 = to_some (through (begin rules.block_name c.args.at refl)) (opens c.args.tokens.now.text c.args.tokens.now.list (both rules.colon rules.ident) c.args.at 0 (shapes.mark (codes ":")) refl e) in
    let w2 = then w1 (token_read d (shapes.mark (codes ":")) c.args.at e) in
    exit _ c.from_residual.ensures.1 (refuse_last w2 (c.in_err-name.ensures.answer d))

pub returns-in_ok-name-clause-answer : goal.returns-in_ok-name-clause-answer
returns-in_ok-name-clause-answer c = λ d.
    let e = sym c.is_mark.ensures.answer ∙ c.if-is_mark.true in
    let w1 = to_some (through (begin rules.block_name c.args.at refl)) (opens c.args.tokens.now.text c.args.tokens.now.list (both rules.colon rules.ident) c.args.at 0 (shapes.mark (codes ":")) refl e) in
    let w2 = then w1 (token_read d (shapes.mark (codes ":")) c.args.at e) in
    last w2 (c.in_ok-name.ensures.answer d)

pub returns-else-is_mark-clause-answer : goal.returns-else-is_mark-clause-answer
returns-else-is_mark-clause-answer c = λ d.
    to_none (through (begin rules.block_name c.args.at refl))
    (absent c.args.tokens.now.text c.args.tokens.now.list (both rules.colon rules.ident) c.args.at (shapes.mark (codes ":")) refl (sym c.is_mark.ensures.answer ∙ c.if-is_mark.false))
