use Rattle.std.proofs.Common.{refl, sym, ◌∙◌, codes}
use Rattle.lv_grammar.specs.Shapes as shapes
use Rattle.lv_grammar.specs.Rules as rules
use Rattle.lv_grammars.specs.Grammar.{either}
use Rattle.lv_grammars.specs.Nexts.{lacks_none, lacks_also}
use Rattle.lv_grammars.proofs.Good.{outside_these}
use Rattle.lv_parser.specs.Answers.{from}
use Rattle.lv_parser.proofs.Paths.{begin, through, then, last, refuse, to_left, to_right, to_some, to_none, opens, other, absent, token_read, lacks_of}
use Rattle.lv_parser.proofs.Fronts.{exit}
use Rattle.lv_parser.proofs.declarations.output.Goals as goal

pub returns-in_err-kind-clause-answer : goal.returns-in_err-kind-clause-answer
returns-in_err-kind-clause-answer c = λ d. exit _ c.from_residual.ensures.1 (refuse (through (begin rules.output c.args.at refl)) (c.in_err-kind.ensures.answer d) refl)

pub returns-then-is_word-clause-answer : goal.returns-then-is_word-clause-answer
returns-then-is_word-clause-answer c = λ d.
    let w1 = then (through (begin rules.output c.args.at refl)) (c.in_ok-kind.ensures.answer d) in
    let n = sym c.is_word.ensures.answer ∙ c.if-is_word.true in
    let o = opens c.args.tokens.now.text c.args.tokens.now.list (either (rules.word (codes "wire")) (rules.word (codes "reg"))) c.in_ok-kind.kind 0 (shapes.word (codes "wire")) refl n in
    let p = other c.args.tokens.now.text c.args.tokens.now.list (rules.word (codes "reg")) c.in_ok-kind.kind (shapes.word (codes "wire")) refl n in
    last (to_left (to_some w1 o) p) (token_read d (shapes.word (codes "wire")) c.in_ok-kind.kind n)

pub returns-then-is_word-2-clause-answer : goal.returns-then-is_word-2-clause-answer
returns-then-is_word-2-clause-answer c = λ d.
    let w1 = then (through (begin rules.output c.args.at refl)) (c.in_ok-kind.ensures.answer d) in
    let n = sym c.is_word-else-is_word.ensures.answer ∙ c.if-is_word-2.true in
    let o = opens c.args.tokens.now.text c.args.tokens.now.list (either (rules.word (codes "wire")) (rules.word (codes "reg"))) c.in_ok-kind.kind 0 (shapes.word (codes "reg")) refl n in
    let p = absent c.args.tokens.now.text c.args.tokens.now.list (rules.word (codes "wire")) c.in_ok-kind.kind (shapes.word (codes "wire")) refl (sym c.is_word.ensures.answer ∙ c.if-is_word.false) in
    last (to_right (to_some w1 o) p) (token_read d (shapes.word (codes "reg")) c.in_ok-kind.kind n)

pub returns-else-is_word-2-clause-answer : goal.returns-else-is_word-2-clause-answer
returns-else-is_word-2-clause-answer c = λ d.
    let w1 = then (through (begin rules.output c.args.at refl)) (c.in_ok-kind.ensures.answer d) in
    let m = lacks_of (shapes.word (codes "wire")) (from c.args.tokens.now.text c.args.tokens.now.list c.in_ok-kind.kind) (sym c.is_word.ensures.answer ∙ c.if-is_word.false) in
    let n = lacks_of (shapes.word (codes "reg")) (from c.args.tokens.now.text c.args.tokens.now.list c.in_ok-kind.kind) (sym c.is_word-else-is_word.ensures.answer ∙ c.if-is_word-2.false) in
    to_none w1 (outside_these refl (lacks_also m (lacks_also n lacks_none)))
