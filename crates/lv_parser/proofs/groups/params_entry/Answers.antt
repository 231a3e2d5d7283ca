use Rattle.std.proofs.Common.{refl, sym, ◌∙◌, codes}
use Rattle.lv_grammar.specs.Shapes as shapes
use Rattle.lv_grammar.specs.Rules as rules
use Rattle.lv_grammars.specs.Grammar.{both, perhaps}
use Rattle.lv_parser.proofs.Paths.{begin, then, last, refuse, refuse_last, to_some, to_none, opens, absent}
use Rattle.lv_parser.proofs.Fronts.{exit}
use Rattle.lv_parser.proofs.groups.params_entry.Goals as goal

pub returns-in_err-header-clause-answer : goal.returns-in_err-header-clause-answer
returns-in_err-header-clause-answer c = λ d.
    let o = opens c.args.tokens.now.text c.args.tokens.now.list rules.params_header c.args.at 0 (shapes.word (codes "parameter")) refl (sym c.is_word.ensures.answer ∙ c.if-is_word.true) in
    let r = refuse_last (to_some (begin (perhaps rules.params_header) c.args.at refl) o) (c.in_err-header.ensures.answer d) in
    exit _ c.from_residual.ensures.1 (refuse (begin (both (perhaps rules.params_header) rules.setting) c.args.at refl) r refl)

pub returns-in_err-setting-clause-answer : goal.returns-in_err-setting-clause-answer
returns-in_err-setting-clause-answer c = λ d.
    let o = opens c.args.tokens.now.text c.args.tokens.now.list rules.params_header c.args.at 0 (shapes.word (codes "parameter")) refl (sym c.is_word.ensures.answer ∙ c.if-is_word.true) in
    let r = last (to_some (begin (perhaps rules.params_header) c.args.at refl) o) (c.in_ok-header.ensures.answer d) in
    exit _ c.from_residual-in_err-setting.ensures.1 (refuse_last (then (begin (both (perhaps rules.params_header) rules.setting) c.args.at refl) r) (c.in_err-setting.ensures.answer d))

pub returns-in_ok-setting-clause-answer : goal.returns-in_ok-setting-clause-answer
returns-in_ok-setting-clause-answer c = λ d.
    let o = opens c.args.tokens.now.text c.args.tokens.now.list rules.params_header c.args.at 0 (shapes.word (codes "parameter")) refl (sym c.is_word.ensures.answer ∙ c.if-is_word.true) in
    let r = last (to_some (begin (perhaps rules.params_header) c.args.at refl) o) (c.in_ok-header.ensures.answer d) in
    last (then (begin (both (perhaps rules.params_header) rules.setting) c.args.at refl) r) (c.in_ok-setting.ensures.answer d)

pub returns-in_err-alone-clause-answer : goal.returns-in_err-alone-clause-answer
returns-in_err-alone-clause-answer c = λ d.
    let r = to_none (begin (perhaps rules.params_header) c.args.at refl) (absent c.args.tokens.now.text c.args.tokens.now.list rules.params_header c.args.at (shapes.word (codes "parameter")) refl (sym c.is_word.ensures.answer ∙ c.if-is_word.false)) in
    exit _ c.from_residual-in_err-alone.ensures.1 (refuse_last (then (begin (both (perhaps rules.params_header) rules.setting) c.args.at refl) r) (c.in_err-alone.ensures.answer d))

pub returns-in_ok-alone-clause-answer : goal.returns-in_ok-alone-clause-answer
returns-in_ok-alone-clause-answer c = λ d.
    let r = to_none (begin (perhaps rules.params_header) c.args.at refl) (absent c.args.tokens.now.text c.args.tokens.now.list rules.params_header c.args.at (shapes.word (codes "parameter")) refl (sym c.is_word.ensures.answer ∙ c.if-is_word.false)) in
    last (then (begin (both (perhaps rules.params_header) rules.setting) c.args.at refl) r) (c.in_ok-alone.ensures.answer d)
