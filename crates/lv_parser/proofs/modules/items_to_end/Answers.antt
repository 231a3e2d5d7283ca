use Rattle.std.proofs.Common.{refl, sym, ◌∙◌, codes, arith}
use Rattle.lv_grammars.specs.Grammar.{call}
use Rattle.lv_grammar.specs.Shapes as shapes
use Rattle.lv_grammar.specs.Rules as rules
use Rattle.lv_parser.proofs.Paths.{begin, through, last, refuse_last, taken, take_more, take_stops, take_ends}
use Rattle.lv_parser.proofs.Fronts.{exit}
use Rattle.lv_parser.proofs.modules.items_to_end.Goals as goal

pub entries-init : goal.entries-init
entries-init c = (λ d t s i. taken (call shapes.item) (shapes.word (codes "endmodule")) c.args.at c.new-list.ensures, omega arith, c.requires)

pub returns-in_err-more-clause-answer : goal.returns-in_err-more-clause-answer
returns-in_err-more-clause-answer c = λ d t s i.
    exit _ c.from_residual.ensures.1
    (refuse_last (through (begin rules.items_to_end c.args.at refl))
    (take_stops refl (c.entries.invariant.0 d t s i) (sym c.is_word.ensures.answer ∙ c.entries-test.true) (c.in_err-more.ensures.answer d t s i)))

pub entries-preserved : goal.entries-preserved
entries-preserved c = (
  λ d t s i. take_more refl (c.entries.invariant.0 d t s i) (sym c.is_word.ensures.answer ∙ c.entries-test.true) c.in_ok-push.ensures (c.in_ok-more.ensures.answer d t s i),
  omega (arith, c.in_ok-more.ensures.ahead.0, c.entries.invariant.1),
  c.in_ok-more.ensures.ahead.1,
)

pub returns-clause-answer : goal.returns-clause-answer
returns-clause-answer c = λ d t s i.
    last (through (begin rules.items_to_end c.args.at refl)) (take_ends refl refl (c.entries.invariant.0 d t s i) (sym c.is_word.ensures.answer ∙ c.entries-test.false))
