use Rattle.std.proofs.Common.{refl, sym, ◌∙◌, ap, arith}
use Rattle.lv_grammars.specs.Grammar.{call}
use Rattle.lv_grammars.specs.Spelling.{most}
use Rattle.lv_grammar.specs.Shapes as shapes
use Rattle.lv_grammar.specs.Rules as rules
use Rattle.lv_parser.proofs.Paths.{begin, through, then, last, refuse, refuse_last, taken, take_more, take_stops, take_ends}
use Rattle.lv_parser.proofs.Fronts.{exit}
use Rattle.lv_parser.proofs.Instead.{instead}
use Rattle.lv_parser.proofs.StatementPaths.{carried}
use Rattle.lv_parser.proofs.ItemPaths.{block_item_within, block_good, block_apart, whole_good, wire_first, not_wire, reg_first, not_reg, integer_first, not_integer, genvar_first, not_genvar, localparam_first, not_localparam, assign_first, not_assign, always_first, not_always, for_first, not_for}
use Rattle.lv_parser.proofs.items.+items.Goals as goal

pub block_items-entries-init : goal.block_items-entries-init
block_items-entries-init m c = (λ d t s i. taken (call shapes.block_item) (shapes.word (rules.block_end c.args.looped)) c.args.at c.new-list.ensures, omega arith, c.requires)

pub block_items-returns-in_err-more-clause-answer : goal.block_items-returns-in_err-more-clause-answer
block_items-returns-in_err-more-clause-answer m c = λ d t s i.
    exit _ c.from_residual.ensures.1
    (refuse_last (through (begin (rules.block_items (rules.block_end c.args.looped)) c.args.at (whole_good c.args.looped)))
    (take_stops (block_good c.args.looped) (c.entries.invariant.0 d t s i) (sym c.is_block_end.ensures.answer ∙ c.entries-test.true) (c.in_err-more.ensures.answer d t s i)))

pub block_items-entries-preserved : goal.block_items-entries-preserved
block_items-entries-preserved m c = (
  λ d t s i. take_more (block_good c.args.looped) (c.entries.invariant.0 d t s i) (sym c.is_block_end.ensures.answer ∙ c.entries-test.true) c.in_ok-push.ensures (c.in_ok-more.ensures.answer d t s i),
  omega (arith, c.in_ok-more.ensures.ahead.0, c.entries.invariant.1),
  c.in_ok-more.ensures.ahead.1,
)

pub block_items-returns-clause-answer : goal.block_items-returns-clause-answer
block_items-returns-clause-answer m c = λ d t s i.
    last (through (begin (rules.block_items (rules.block_end c.args.looped)) c.args.at (whole_good c.args.looped)))
    (take_ends (block_good c.args.looped) (block_apart c.args.looped) (c.entries.invariant.0 d t s i) (sym c.is_block_end.ensures.answer ∙ c.entries-test.false))

pub named_block-returns-in_err-colon-clause-answer : goal.named_block-returns-in_err-colon-clause-answer
named_block-returns-in_err-colon-clause-answer m c = λ d t s i.
    let w0 = through (begin rules.named_block c.args.at refl) in
    exit _ c.from_residual.ensures.1 (refuse w0 (c.in_err-colon.ensures.answer d) refl)

pub named_block-returns-in_err-name-clause-answer : goal.named_block-returns-in_err-name-clause-answer
named_block-returns-in_err-name-clause-answer m c = λ d t s i.
    let w0 = through (begin rules.named_block c.args.at refl) in
    let w1 = then w0 (c.in_ok-colon.ensures.answer d) in
    exit _ c.from_residual-in_err-name.ensures.1 (refuse w1 (c.in_err-name.ensures.answer d) refl)

pub named_block-returns-in_err-label-clause-answer : goal.named_block-returns-in_err-label-clause-answer
named_block-returns-in_err-label-clause-answer m c = λ d t s i.
    let w0 = through (begin rules.named_block c.args.at refl) in
    let w1 = then w0 (c.in_ok-colon.ensures.answer d) in
    let w2 = then w1 (c.in_ok-name.ensures.answer d) in
    exit _ c.from_residual-in_err-label.ensures.1 (refuse w2 (c.in_err-label.ensures.answer d) refl)

pub named_block-returns-in_err-list-clause-answer : goal.named_block-returns-in_err-list-clause-answer
named_block-returns-in_err-list-clause-answer m c = λ d t s i.
    let w0 = through (begin rules.named_block c.args.at refl) in
    let w1 = then w0 (c.in_ok-colon.ensures.answer d) in
    let w2 = then w1 (c.in_ok-name.ensures.answer d) in
    let w3 = then w2 (c.in_ok-label.ensures.answer d) in
    exit _ c.from_residual-in_err-list.ensures.1 (refuse_last w3 (c.in_err-list.ensures.answer d t s i))

pub named_block-returns-clause-answer : goal.named_block-returns-clause-answer
named_block-returns-clause-answer m c = λ d t s i.
    let w0 = through (begin rules.named_block c.args.at refl) in
    let w1 = then w0 (c.in_ok-colon.ensures.answer d) in
    let w2 = then w1 (c.in_ok-name.ensures.answer d) in
    let w3 = then w2 (c.in_ok-label.ensures.answer d) in
    last w3 (c.in_ok-list.ensures.answer d t s i)

pub generate_loop-returns-in_err-head-clause-answer : goal.generate_loop-returns-in_err-head-clause-answer
generate_loop-returns-in_err-head-clause-answer m c = λ d t s i. exit _ c.from_residual.ensures.1 (refuse (through (begin rules.generate_loop c.args.at refl)) (c.in_err-head.ensures.answer d) refl)

pub generate_loop-returns-in_err-label-clause-answer : goal.generate_loop-returns-in_err-label-clause-answer
generate_loop-returns-in_err-label-clause-answer m c = λ d t s i.
    let w1 = then (through (begin rules.generate_loop c.args.at refl)) (c.in_ok-head.ensures.answer d) in
    exit _ c.from_residual-in_err-label.ensures.1 (refuse_last w1 (c.in_err-label.ensures.answer d t s i))

pub generate_loop-returns-clause-answer : goal.generate_loop-returns-clause-answer
generate_loop-returns-clause-answer m c = λ d t s i.
    let w1 = then (through (begin rules.generate_loop c.args.at refl)) (c.in_ok-head.ensures.answer d) in
    instead c.loop_of.ensures (last w1 (c.in_ok-label.ensures.answer d t s i))

pub block_item_body-returns-then-is_word-clause-answer : goal.block_item_body-returns-then-is_word-clause-answer
block_item_body-returns-then-is_word-clause-answer m c = λ d t s i.
    carried c.wire.result (wire_first c.args.at (sym c.is_word.ensures.answer ∙ c.if-is_word.true)) (c.wire.ensures.answer d)

pub block_item_body-returns-then-is_word-2-clause-answer : goal.block_item_body-returns-then-is_word-2-clause-answer
block_item_body-returns-then-is_word-2-clause-answer m c = λ d t s i.
    let w0 = not_wire c.args.at (sym c.is_word.ensures.answer ∙ c.if-is_word.false) in
    carried c.reg.result (reg_first c.args.at w0 (sym c.is_word-else-is_word.ensures.answer ∙ c.if-is_word-2.true)) (c.reg.ensures.answer d)

pub block_item_body-returns-then-is_word-3-clause-answer : goal.block_item_body-returns-then-is_word-3-clause-answer
block_item_body-returns-then-is_word-3-clause-answer m c = λ d t s i.
    let w0 = not_wire c.args.at (sym c.is_word.ensures.answer ∙ c.if-is_word.false) in
    let w1 = not_reg c.args.at w0 (sym c.is_word-else-is_word.ensures.answer ∙ c.if-is_word-2.false) in
    carried c.index.result (integer_first c.args.at w1 (sym c.is_word-else-is_word-2.ensures.answer ∙ c.if-is_word-3.true)) (c.index.ensures.answer d)

pub block_item_body-returns-then-is_word-4-clause-answer : goal.block_item_body-returns-then-is_word-4-clause-answer
block_item_body-returns-then-is_word-4-clause-answer m c = λ d t s i.
    let w0 = not_wire c.args.at (sym c.is_word.ensures.answer ∙ c.if-is_word.false) in
    let w1 = not_reg c.args.at w0 (sym c.is_word-else-is_word.ensures.answer ∙ c.if-is_word-2.false) in
    let w2 = not_integer c.args.at w1 (sym c.is_word-else-is_word-2.ensures.answer ∙ c.if-is_word-3.false) in
    carried c.index-then-is_word-4.result (genvar_first c.args.at w2 (sym c.is_word-else-is_word-3.ensures.answer ∙ c.if-is_word-4.true)) (c.index-then-is_word-4.ensures.answer d)

pub block_item_body-returns-then-is_word-5-clause-answer : goal.block_item_body-returns-then-is_word-5-clause-answer
block_item_body-returns-then-is_word-5-clause-answer m c = λ d t s i.
    let w0 = not_wire c.args.at (sym c.is_word.ensures.answer ∙ c.if-is_word.false) in
    let w1 = not_reg c.args.at w0 (sym c.is_word-else-is_word.ensures.answer ∙ c.if-is_word-2.false) in
    let w2 = not_integer c.args.at w1 (sym c.is_word-else-is_word-2.ensures.answer ∙ c.if-is_word-3.false) in
    let w3 = not_genvar c.args.at w2 (sym c.is_word-else-is_word-3.ensures.answer ∙ c.if-is_word-4.false) in
    carried c.parameter.result (localparam_first c.args.at w3 (sym c.is_word-else-is_word-4.ensures.answer ∙ c.if-is_word-5.true)) (c.parameter.ensures.answer d)

pub block_item_body-returns-then-is_word-6-clause-answer : goal.block_item_body-returns-then-is_word-6-clause-answer
block_item_body-returns-then-is_word-6-clause-answer m c = λ d t s i.
    let w0 = not_wire c.args.at (sym c.is_word.ensures.answer ∙ c.if-is_word.false) in
    let w1 = not_reg c.args.at w0 (sym c.is_word-else-is_word.ensures.answer ∙ c.if-is_word-2.false) in
    let w2 = not_integer c.args.at w1 (sym c.is_word-else-is_word-2.ensures.answer ∙ c.if-is_word-3.false) in
    let w3 = not_genvar c.args.at w2 (sym c.is_word-else-is_word-3.ensures.answer ∙ c.if-is_word-4.false) in
    let w4 = not_localparam c.args.at w3 (sym c.is_word-else-is_word-4.ensures.answer ∙ c.if-is_word-5.false) in
    carried c.assign.result (assign_first c.args.at w4 (sym c.is_word-else-is_word-5.ensures.answer ∙ c.if-is_word-6.true)) (c.assign.ensures.answer d t)

pub block_item_body-returns-then-is_word-7-clause-answer : goal.block_item_body-returns-then-is_word-7-clause-answer
block_item_body-returns-then-is_word-7-clause-answer m c = λ d t s i.
    let w0 = not_wire c.args.at (sym c.is_word.ensures.answer ∙ c.if-is_word.false) in
    let w1 = not_reg c.args.at w0 (sym c.is_word-else-is_word.ensures.answer ∙ c.if-is_word-2.false) in
    let w2 = not_integer c.args.at w1 (sym c.is_word-else-is_word-2.ensures.answer ∙ c.if-is_word-3.false) in
    let w3 = not_genvar c.args.at w2 (sym c.is_word-else-is_word-3.ensures.answer ∙ c.if-is_word-4.false) in
    let w4 = not_localparam c.args.at w3 (sym c.is_word-else-is_word-4.ensures.answer ∙ c.if-is_word-5.false) in
    let w5 = not_assign c.args.at w4 (sym c.is_word-else-is_word-5.ensures.answer ∙ c.if-is_word-6.false) in
    carried c.always.result (always_first c.args.at w5 (sym c.is_word-else-is_word-6.ensures.answer ∙ c.if-is_word-7.true)) (c.always.ensures.answer d t s)

pub block_item_body-returns-then-is_word-8-clause-answer : goal.block_item_body-returns-then-is_word-8-clause-answer
block_item_body-returns-then-is_word-8-clause-answer m c = λ d t s i.
    let w0 = not_wire c.args.at (sym c.is_word.ensures.answer ∙ c.if-is_word.false) in
    let w1 = not_reg c.args.at w0 (sym c.is_word-else-is_word.ensures.answer ∙ c.if-is_word-2.false) in
    let w2 = not_integer c.args.at w1 (sym c.is_word-else-is_word-2.ensures.answer ∙ c.if-is_word-3.false) in
    let w3 = not_genvar c.args.at w2 (sym c.is_word-else-is_word-3.ensures.answer ∙ c.if-is_word-4.false) in
    let w4 = not_localparam c.args.at w3 (sym c.is_word-else-is_word-4.ensures.answer ∙ c.if-is_word-5.false) in
    let w5 = not_assign c.args.at w4 (sym c.is_word-else-is_word-5.ensures.answer ∙ c.if-is_word-6.false) in
    let w6 = not_always c.args.at w5 (sym c.is_word-else-is_word-6.ensures.answer ∙ c.if-is_word-7.false) in
    carried c.generate_loop.result (for_first c.args.at w6 (sym c.is_word-else-is_word-7.ensures.answer ∙ c.if-is_word-8.true)) (c.generate_loop.ensures.answer d t s i)

pub block_item_body-returns-else-is_word-8-clause-answer : goal.block_item_body-returns-else-is_word-8-clause-answer
block_item_body-returns-else-is_word-8-clause-answer m c = λ d t s i.
    let w0 = not_wire c.args.at (sym c.is_word.ensures.answer ∙ c.if-is_word.false) in
    let w1 = not_reg c.args.at w0 (sym c.is_word-else-is_word.ensures.answer ∙ c.if-is_word-2.false) in
    let w2 = not_integer c.args.at w1 (sym c.is_word-else-is_word-2.ensures.answer ∙ c.if-is_word-3.false) in
    let w3 = not_genvar c.args.at w2 (sym c.is_word-else-is_word-3.ensures.answer ∙ c.if-is_word-4.false) in
    let w4 = not_localparam c.args.at w3 (sym c.is_word-else-is_word-4.ensures.answer ∙ c.if-is_word-5.false) in
    let w5 = not_assign c.args.at w4 (sym c.is_word-else-is_word-5.ensures.answer ∙ c.if-is_word-6.false) in
    let w6 = not_always c.args.at w5 (sym c.is_word-else-is_word-6.ensures.answer ∙ c.if-is_word-7.false) in
    let w7 = not_for c.args.at w6 (sym c.is_word-else-is_word-7.ensures.answer ∙ c.if-is_word-8.false) in
    carried c.instance.result w7 (c.instance.ensures.answer d)

pub block_items-returns-then-left-eq0-clause-answer : goal.block_items-returns-then-left-eq0-clause-answer
block_items-returns-then-left-eq0-clause-answer m c = λ d t s i. c.no_items.ensures.answer d t s (i ∙ ap most c.if-left-eq0.true)

pub block_item-returns-clause-answer : goal.block_item-returns-clause-answer
block_item-returns-clause-answer m c = block_item_within c.args.tokens.now.text c.args.tokens.now.list c.args.left c.args.at c.block_item_body.result c.requires.room c.block_item_body.ensures.answer
