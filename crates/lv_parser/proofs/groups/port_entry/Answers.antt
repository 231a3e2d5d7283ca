use Rattle.std.proofs.Common.{refl, sym, ◌∙◌, codes}
use Rattle.lv_grammar.specs.Shapes as shapes
use Rattle.lv_grammar.specs.Rules as rules
use Rattle.lv_grammars.specs.Grammar.{both, perhaps}
use Rattle.lv_parser.proofs.Paths.{begin, then, last, refuse, refuse_last, to_some, to_none}
use Rattle.lv_parser.proofs.EitherToken.{opens_either, absent_either}
use Rattle.lv_parser.proofs.Fronts.{exit}
use Rattle.lv_parser.proofs.groups.port_entry.Goals as goal

pub returns-in_err-header-clause-answer : goal.returns-in_err-header-clause-answer
returns-in_err-header-clause-answer c = λ d.
    let o = opens_either c.args.tokens.now.text c.args.tokens.now.list rules.port_header c.args.at (shapes.word (codes "input")) (shapes.word (codes "output")) 0 refl refl (sym c.is_direction.ensures ∙ c.if-is_direction.true) in
    let r = refuse_last (to_some (begin (perhaps rules.port_header) c.args.at refl) o) (c.in_err-header.ensures.answer d) in
    exit _ c.from_residual.ensures.1 (refuse (begin (both (perhaps rules.port_header) rules.ident) c.args.at refl) r refl)

pub returns-in_err-ident-clause-answer : goal.returns-in_err-ident-clause-answer
returns-in_err-ident-clause-answer c = λ d.
    let o = opens_either c.args.tokens.now.text c.args.tokens.now.list rules.port_header c.args.at (shapes.word (codes "input")) (shapes.word (codes "output")) 0 refl refl (sym c.is_direction.ensures ∙ c.if-is_direction.true) in
    let r = last (to_some (begin (perhaps rules.port_header) c.args.at refl) o) (c.in_ok-header.ensures.answer d) in
    exit _ c.from_residual-in_err-ident.ensures.1 (refuse_last (then (begin (both (perhaps rules.port_header) rules.ident) c.args.at refl) r) (c.in_err-ident.ensures.answer d))

pub returns-in_ok-ident-clause-answer : goal.returns-in_ok-ident-clause-answer
returns-in_ok-ident-clause-answer c = λ d.
    let o = opens_either c.args.tokens.now.text c.args.tokens.now.list rules.port_header c.args.at (shapes.word (codes "input")) (shapes.word (codes "output")) 0 refl refl (sym c.is_direction.ensures ∙ c.if-is_direction.true) in
    let r = last (to_some (begin (perhaps rules.port_header) c.args.at refl) o) (c.in_ok-header.ensures.answer d) in
    last (then (begin (both (perhaps rules.port_header) rules.ident) c.args.at refl) r) (c.in_ok-ident.ensures.answer d)

pub returns-in_err-alone-clause-answer : goal.returns-in_err-alone-clause-answer
returns-in_err-alone-clause-answer c = λ d.
    let r = to_none (begin (perhaps rules.port_header) c.args.at refl)
    (absent_either c.args.tokens.now.text c.args.tokens.now.list rules.port_header c.args.at (shapes.word (codes "input")) (shapes.word (codes "output")) refl (sym c.is_direction.ensures ∙ c.if-is_direction.false)) in
    exit _ c.from_residual-in_err-alone.ensures.1 (refuse_last (then (begin (both (perhaps rules.port_header) rules.ident) c.args.at refl) r) (c.in_err-alone.ensures.answer d))

pub returns-in_ok-alone-clause-answer : goal.returns-in_ok-alone-clause-answer
returns-in_ok-alone-clause-answer c = λ d.
    let r = to_none (begin (perhaps rules.port_header) c.args.at refl)
    (absent_either c.args.tokens.now.text c.args.tokens.now.list rules.port_header c.args.at (shapes.word (codes "input")) (shapes.word (codes "output")) refl (sym c.is_direction.ensures ∙ c.if-is_direction.false)) in
    last (then (begin (both (perhaps rules.port_header) rules.ident) c.args.at refl) r) (c.in_ok-alone.ensures.answer d)
