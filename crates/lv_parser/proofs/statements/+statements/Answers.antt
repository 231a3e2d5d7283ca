use Rattle.std.proofs.Common.{refl, sym, ◌∙◌, ap, arith, codes}
use Rattle.lv_grammars.specs.Grammar.{call}
use Rattle.lv_grammars.specs.Spelling.{most}
use Rattle.lv_grammar.specs.Shapes as shapes
use Rattle.lv_grammar.specs.Rules as rules
use Rattle.lv_parser.proofs.Paths.{begin, through, then, last, refuse, refuse_in, refuse_last, other, absent, token_read, taken, take_more, take_stops, take_ends}
use Rattle.lv_parser.proofs.Fronts.{exit}
use Rattle.lv_parser.proofs.Rooms.{is_inner, stmt_rooms}
use Rattle.lv_parser.proofs.Instead.{instead}
use Rattle.lv_parser.proofs.StatementPaths.{carried, to_first, to_other, branches_refused, else_next, no_else, stmt_within, stmt_last, empty_first, not_empty, block_first, not_block, choice_first, not_choice, case_first, not_case, casez_first, not_casez, loop_first, not_loop, arms_first, first_refused, arms_more, arms_stop, arms_end}
use Rattle.lv_parser.proofs.statements.+statements.Goals as goal

pub inner_stmt-returns-in_err-body-clause-answer : goal.inner_stmt-returns-in_err-body-clause-answer
inner_stmt-returns-in_err-body-clause-answer t c = λ d h k. exit _ c.from_residual.ensures.1 (c.in_err-body.ensures.answer d h k)

pub inner_stmt-returns-clause-answer : goal.inner_stmt-returns-clause-answer
inner_stmt-returns-clause-answer t c = λ d h k. instead c.in_ok-inner.ensures (c.in_ok-body.ensures.answer d h k)

pub turns-returns-in_err-head-clause-answer : goal.turns-returns-in_err-head-clause-answer
turns-returns-in_err-head-clause-answer t c = λ d h k.
    let w0 = through (begin rules.loop c.args.at refl) in
    exit _ c.from_residual.ensures.1 (refuse_in is_inner (stmt_rooms h k c.requires.room) w0 (c.in_err-head.ensures.answer d) refl)

pub turns-returns-in_err-body-clause-answer : goal.turns-returns-in_err-body-clause-answer
turns-returns-in_err-body-clause-answer t c = λ d h k.
    let w0 = through (begin rules.loop c.args.at refl) in
    let w1 = then w0 (c.in_ok-head.ensures.answer d) in
    exit _ c.from_residual-in_err-body.ensures.1 (refuse_last w1 (c.in_err-body.ensures.answer d h k))

pub turns-returns-clause-answer : goal.turns-returns-clause-answer
turns-returns-clause-answer t c = λ d h k.
    let w0 = through (begin rules.loop c.args.at refl) in
    let w1 = then w0 (c.in_ok-head.ensures.answer d) in
    last w1 (c.in_ok-body.ensures.answer d h k)

pub stmts_to_end-entries-init : goal.stmts_to_end-entries-init
stmts_to_end-entries-init t c = (λ d h k. taken (call shapes.stmt) (shapes.word (codes "end")) c.args.at c.new-list.ensures, omega arith, c.requires)

pub stmts_to_end-returns-in_err-more-clause-answer : goal.stmts_to_end-returns-in_err-more-clause-answer
stmts_to_end-returns-in_err-more-clause-answer t c = λ d h k.
    exit _ c.from_residual.ensures.1 (refuse_last (through (begin rules.stmts_to_end c.args.at refl)) (take_stops refl (c.entries.invariant.0 d h k) (sym c.is_word.ensures.answer ∙ c.entries-test.true) (c.in_err-more.ensures.answer d h k)))

pub stmts_to_end-entries-preserved : goal.stmts_to_end-entries-preserved
stmts_to_end-entries-preserved t c = (
  λ d h k. take_more refl (c.entries.invariant.0 d h k) (sym c.is_word.ensures.answer ∙ c.entries-test.true) c.in_ok-push.ensures (c.in_ok-more.ensures.answer d h k),
  omega (arith, c.in_ok-more.ensures.ahead.0, c.entries.invariant.1),
  c.in_ok-more.ensures.ahead.1,
)

pub stmts_to_end-returns-clause-answer : goal.stmts_to_end-returns-clause-answer
stmts_to_end-returns-clause-answer t c = λ d h k.
    last (through (begin rules.stmts_to_end c.args.at refl)) (take_ends refl refl (c.entries.invariant.0 d h k) (sym c.is_word.ensures.answer ∙ c.entries-test.false))

pub block-returns-in_err-colon-clause-answer : goal.block-returns-in_err-colon-clause-answer
block-returns-in_err-colon-clause-answer t c = λ d h k.
    let w0 = through (begin rules.block c.args.at refl) in
    exit _ c.from_residual.ensures.1 (refuse w0 (c.in_err-colon.ensures.answer d) refl)

pub block-returns-in_err-name-clause-answer : goal.block-returns-in_err-name-clause-answer
block-returns-in_err-name-clause-answer t c = λ d h k.
    let w0 = through (begin rules.block c.args.at refl) in
    let w1 = then w0 (c.in_ok-colon.ensures.answer d) in
    exit _ c.from_residual-in_err-name.ensures.1 (refuse w1 (c.in_err-name.ensures.answer d) refl)

pub block-returns-in_err-list-clause-answer : goal.block-returns-in_err-list-clause-answer
block-returns-in_err-list-clause-answer t c = λ d h k.
    let w0 = through (begin rules.block c.args.at refl) in
    let w1 = then w0 (c.in_ok-colon.ensures.answer d) in
    let w2 = then w1 (c.in_ok-name.ensures.answer d) in
    exit _ c.from_residual-in_err-list.ensures.1 (refuse_last w2 (c.in_err-list.ensures.answer d h k))

pub block-returns-clause-answer : goal.block-returns-clause-answer
block-returns-clause-answer t c = λ d h k.
    let w0 = through (begin rules.block c.args.at refl) in
    let w1 = then w0 (c.in_ok-colon.ensures.answer d) in
    let w2 = then w1 (c.in_ok-name.ensures.answer d) in
    last w2 (c.in_ok-list.ensures.answer d h k)

pub branches-returns-in_err-then-clause-answer : goal.branches-returns-in_err-then-clause-answer
branches-returns-in_err-then-clause-answer t c = λ d h k. exit _ c.from_residual.ensures.1 (branches_refused (c.in_err-then.ensures.answer d h k))

pub branches-returns-in_err-other-clause-answer : goal.branches-returns-in_err-other-clause-answer
branches-returns-in_err-other-clause-answer t c = λ d h k.
    let w = else_next (c.in_ok-then.ensures.answer d h k) (sym c.is_word.ensures.answer ∙ c.if-is_word.true) in
    exit _ c.from_residual-in_err-other.ensures.1 (refuse_last w (c.in_err-other.ensures.answer d h k))

pub branches-returns-in_ok-other-clause-answer : goal.branches-returns-in_ok-other-clause-answer
branches-returns-in_ok-other-clause-answer t c = λ d h k.
    let w = else_next (c.in_ok-then.ensures.answer d h k) (sym c.is_word.ensures.answer ∙ c.if-is_word.true) in
    last w (c.in_ok-other.ensures.answer d h k)

pub branches-returns-else-is_word-clause-answer : goal.branches-returns-else-is_word-clause-answer
branches-returns-else-is_word-clause-answer t c = λ d h k. no_else (c.in_ok-then.ensures.answer d h k) (sym c.is_word.ensures.answer ∙ c.if-is_word.false)

pub choice-returns-in_err-open-clause-answer : goal.choice-returns-in_err-open-clause-answer
choice-returns-in_err-open-clause-answer t c = λ d h k.
    let w0 = through (begin rules.choice c.args.at refl) in
    exit _ c.from_residual.ensures.1 (refuse_in is_inner (stmt_rooms h k c.requires.room) w0 (c.in_err-open.ensures.answer d) refl)

pub choice-returns-in_err-inner-clause-answer : goal.choice-returns-in_err-inner-clause-answer
choice-returns-in_err-inner-clause-answer t c = λ d h k.
    let w0 = through (begin rules.choice c.args.at refl) in
    let w1 = then w0 (c.in_ok-open.ensures.answer d) in
    exit _ c.from_residual-in_err-inner.ensures.1 (refuse_in is_inner (stmt_rooms h k c.requires.room) w1 (c.in_err-inner.ensures.answer d) refl)

pub choice-returns-in_err-test-clause-answer : goal.choice-returns-in_err-test-clause-answer
choice-returns-in_err-test-clause-answer t c = λ d h k.
    let w0 = through (begin rules.choice c.args.at refl) in
    let w1 = then w0 (c.in_ok-open.ensures.answer d) in
    let w2 = then w1 (c.in_ok-inner.ensures.answer d) in
    exit _ c.from_residual-in_err-test.ensures.1 (refuse_in is_inner (stmt_rooms h k c.requires.room) w2 (c.in_err-test.ensures.answer d) refl)

pub choice-returns-in_err-first-clause-answer : goal.choice-returns-in_err-first-clause-answer
choice-returns-in_err-first-clause-answer t c = λ d h k.
    let w0 = through (begin rules.choice c.args.at refl) in
    let w1 = then w0 (c.in_ok-open.ensures.answer d) in
    let w2 = then w1 (c.in_ok-inner.ensures.answer d) in
    let w3 = then w2 (c.in_ok-test.ensures.answer d) in
    exit _ c.from_residual-in_err-first.ensures.1 (refuse_in is_inner (stmt_rooms h k c.requires.room) w3 (c.in_err-first.ensures.answer d) refl)

pub choice-returns-in_err-then-clause-answer : goal.choice-returns-in_err-then-clause-answer
choice-returns-in_err-then-clause-answer t c = λ d h k.
    let w0 = through (begin rules.choice c.args.at refl) in
    let w1 = then w0 (c.in_ok-open.ensures.answer d) in
    let w2 = then w1 (c.in_ok-inner.ensures.answer d) in
    let w3 = then w2 (c.in_ok-test.ensures.answer d) in
    let w4 = then w3 (c.in_ok-first.ensures.answer d) in
    exit _ c.from_residual-in_err-then.ensures.1 (refuse_last w4 (c.in_err-then.ensures.answer d h k))

pub choice-returns-clause-answer : goal.choice-returns-clause-answer
choice-returns-clause-answer t c = λ d h k.
    let w0 = through (begin rules.choice c.args.at refl) in
    let w1 = then w0 (c.in_ok-open.ensures.answer d) in
    let w2 = then w1 (c.in_ok-inner.ensures.answer d) in
    let w3 = then w2 (c.in_ok-test.ensures.answer d) in
    let w4 = then w3 (c.in_ok-first.ensures.answer d) in
    last w4 (c.in_ok-then.ensures.answer d h k)

pub default_arm-returns-in_err-first-clause-answer : goal.default_arm-returns-in_err-first-clause-answer
default_arm-returns-in_err-first-clause-answer t c = λ d h k.
    let w0 = through (begin rules.default_arm c.args.at refl) in
    exit _ c.from_residual.ensures.1 (refuse_in is_inner (stmt_rooms h k c.requires.room) w0 (c.in_err-first.ensures.answer d) refl)

pub default_arm-returns-in_err-body-clause-answer : goal.default_arm-returns-in_err-body-clause-answer
default_arm-returns-in_err-body-clause-answer t c = λ d h k.
    let w0 = through (begin rules.default_arm c.args.at refl) in
    let w1 = then w0 ((c.in_ok-first.ensures.answer d).1) in
    exit _ c.from_residual-in_err-body.ensures.1 (refuse_last w1 (c.in_err-body.ensures.answer d h k))

pub default_arm-returns-clause-answer : goal.default_arm-returns-clause-answer
default_arm-returns-clause-answer t c = λ d h k.
    let w0 = through (begin rules.default_arm c.args.at refl) in
    let w1 = then w0 ((c.in_ok-first.ensures.answer d).1) in
    instead (ap (λ ls. record { labels = ls; body = c.in_ok-body.body }) c.new-labels.ensures) (last w1 (c.in_ok-body.ensures.answer d h k))

pub labelled_arm-returns-in_err-labels-clause-answer : goal.labelled_arm-returns-in_err-labels-clause-answer
labelled_arm-returns-in_err-labels-clause-answer t c = λ d h k.
    let w0 = through (begin (rules.labelled_arm c.args.wild) c.args.at refl) in
    exit _ c.from_residual.ensures.1 (refuse_in is_inner (stmt_rooms h k c.requires.room) w0 (c.in_err-labels.ensures.answer d) refl)

pub labelled_arm-returns-in_err-first-clause-answer : goal.labelled_arm-returns-in_err-first-clause-answer
labelled_arm-returns-in_err-first-clause-answer t c = λ d h k.
    let w0 = through (begin (rules.labelled_arm c.args.wild) c.args.at refl) in
    let w1 = then w0 (c.in_ok-labels.ensures.answer d) in
    exit _ c.from_residual-in_err-first.ensures.1 (refuse_in is_inner (stmt_rooms h k c.requires.room) w1 (c.in_err-first.ensures.answer d) refl)

pub labelled_arm-returns-in_err-body-clause-answer : goal.labelled_arm-returns-in_err-body-clause-answer
labelled_arm-returns-in_err-body-clause-answer t c = λ d h k.
    let w0 = through (begin (rules.labelled_arm c.args.wild) c.args.at refl) in
    let w1 = then w0 (c.in_ok-labels.ensures.answer d) in
    let w2 = then w1 (c.in_ok-first.ensures.answer d) in
    exit _ c.from_residual-in_err-body.ensures.1 (refuse_last w2 (c.in_err-body.ensures.answer d h k))

pub labelled_arm-returns-clause-answer : goal.labelled_arm-returns-clause-answer
labelled_arm-returns-clause-answer t c = λ d h k.
    let w0 = through (begin (rules.labelled_arm c.args.wild) c.args.at refl) in
    let w1 = then w0 (c.in_ok-labels.ensures.answer d) in
    let w2 = then w1 (c.in_ok-first.ensures.answer d) in
    last w2 (c.in_ok-body.ensures.answer d h k)

pub arm-returns-then-is_word-clause-answer : goal.arm-returns-then-is_word-clause-answer
arm-returns-then-is_word-clause-answer t c = λ d h k.
    carried c.default_arm.result (to_first (begin (rules.arm c.args.wild) c.args.at refl) (other c.args.tokens.now.text c.args.tokens.now.list (rules.labelled_arm c.args.wild) c.args.at (shapes.word (codes "default")) refl (sym c.is_word.ensures.answer ∙ c.if-is_word.true)))
    (c.default_arm.ensures.answer d h k)

pub arm-returns-else-is_word-clause-answer : goal.arm-returns-else-is_word-clause-answer
arm-returns-else-is_word-clause-answer t c = λ d h k.
    carried c.labelled_arm.result (to_other (begin (rules.arm c.args.wild) c.args.at refl) (absent c.args.tokens.now.text c.args.tokens.now.list rules.default_arm c.args.at (shapes.word (codes "default")) refl (sym c.is_word.ensures.answer ∙ c.if-is_word.false)))
    (c.labelled_arm.ensures.answer d h k)

pub arms-returns-in_err-first-clause-answer : goal.arms-returns-in_err-first-clause-answer
arms-returns-in_err-first-clause-answer t c = λ d h k. exit _ c.from_residual.ensures.1 (first_refused c.args.wild (c.in_err-first.ensures.answer d h k))

pub arms-entries-init : goal.arms-entries-init
arms-entries-init t c = (λ d h k. arms_first c.new-list.ensures c.in_ok-push.ensures (c.in_ok-first.ensures.answer d h k), c.in_ok-first.ensures.ahead.0, c.in_ok-first.ensures.ahead.1)

pub arms-returns-in_err-more-clause-answer : goal.arms-returns-in_err-more-clause-answer
arms-returns-in_err-more-clause-answer t c = λ d h k. exit _ c.from_residual-in_err-more.ensures.1 (arms_stop (c.entries.invariant.0 d h k) (sym c.is_word.ensures.answer ∙ c.entries-test.true) (c.in_err-more.ensures.answer d h k))

pub arms-entries-preserved : goal.arms-entries-preserved
arms-entries-preserved t c = (
  λ d h k. arms_more (c.entries.invariant.0 d h k) (sym c.is_word.ensures.answer ∙ c.entries-test.true) c.in_ok-push-2.ensures (c.in_ok-more.ensures.answer d h k),
  omega (arith, c.in_ok-more.ensures.ahead.0, c.entries.invariant.1),
  c.in_ok-more.ensures.ahead.1,
)

pub arms-returns-clause-answer : goal.arms-returns-clause-answer
arms-returns-clause-answer t c = λ d h k. arms_end (c.entries.invariant.0 d h k) (sym c.is_word.ensures.answer ∙ c.entries-test.false)

pub cases-returns-in_err-open-clause-answer : goal.cases-returns-in_err-open-clause-answer
cases-returns-in_err-open-clause-answer t c = λ d h k.
    let w0 = through (begin (rules.cases c.args.wild) c.args.at refl) in
    exit _ c.from_residual.ensures.1 (refuse_in is_inner (stmt_rooms h k c.requires.room) w0 (c.in_err-open.ensures.answer d) refl)

pub cases-returns-in_err-inner-clause-answer : goal.cases-returns-in_err-inner-clause-answer
cases-returns-in_err-inner-clause-answer t c = λ d h k.
    let w0 = through (begin (rules.cases c.args.wild) c.args.at refl) in
    let w1 = then w0 (c.in_ok-open.ensures.answer d) in
    exit _ c.from_residual-in_err-inner.ensures.1 (refuse_in is_inner (stmt_rooms h k c.requires.room) w1 (c.in_err-inner.ensures.answer d) refl)

pub cases-returns-in_err-selector-clause-answer : goal.cases-returns-in_err-selector-clause-answer
cases-returns-in_err-selector-clause-answer t c = λ d h k.
    let w0 = through (begin (rules.cases c.args.wild) c.args.at refl) in
    let w1 = then w0 (c.in_ok-open.ensures.answer d) in
    let w2 = then w1 (c.in_ok-inner.ensures.answer d) in
    exit _ c.from_residual-in_err-selector.ensures.1 (refuse_in is_inner (stmt_rooms h k c.requires.room) w2 (c.in_err-selector.ensures.answer d) refl)

pub cases-returns-in_err-first-clause-answer : goal.cases-returns-in_err-first-clause-answer
cases-returns-in_err-first-clause-answer t c = λ d h k.
    let w0 = through (begin (rules.cases c.args.wild) c.args.at refl) in
    let w1 = then w0 (c.in_ok-open.ensures.answer d) in
    let w2 = then w1 (c.in_ok-inner.ensures.answer d) in
    let w3 = then w2 (c.in_ok-selector.ensures.answer d) in
    exit _ c.from_residual-in_err-first.ensures.1 (refuse_in is_inner (stmt_rooms h k c.requires.room) w3 (c.in_err-first.ensures.answer d) refl)

pub cases-returns-in_err-list-clause-answer : goal.cases-returns-in_err-list-clause-answer
cases-returns-in_err-list-clause-answer t c = λ d h k.
    let w0 = through (begin (rules.cases c.args.wild) c.args.at refl) in
    let w1 = then w0 (c.in_ok-open.ensures.answer d) in
    let w2 = then w1 (c.in_ok-inner.ensures.answer d) in
    let w3 = then w2 (c.in_ok-selector.ensures.answer d) in
    let w4 = then w3 (c.in_ok-first.ensures.answer d) in
    exit _ c.from_residual-in_err-list.ensures.1 (refuse_last w4 (c.in_err-list.ensures.answer d h k))

pub cases-returns-clause-answer : goal.cases-returns-clause-answer
cases-returns-clause-answer t c = λ d h k.
    let w0 = through (begin (rules.cases c.args.wild) c.args.at refl) in
    let w1 = then w0 (c.in_ok-open.ensures.answer d) in
    let w2 = then w1 (c.in_ok-inner.ensures.answer d) in
    let w3 = then w2 (c.in_ok-selector.ensures.answer d) in
    let w4 = then w3 (c.in_ok-first.ensures.answer d) in
    last w4 (c.in_ok-list.ensures.answer d h k)

pub stmt_body-returns-then-is_mark-clause-answer : goal.stmt_body-returns-then-is_mark-clause-answer
stmt_body-returns-then-is_mark-clause-answer t c = λ d h k.
    let e = sym c.is_mark.ensures.answer ∙ c.if-is_mark.true in
    last (through (empty_first c.args.at e)) (token_read d (shapes.mark (codes ";")) c.args.at e)

pub stmt_body-returns-then-is_word-clause-answer : goal.stmt_body-returns-then-is_word-clause-answer
stmt_body-returns-then-is_word-clause-answer t c = λ d h k.
    let w0 = not_empty c.args.at (sym c.is_mark.ensures.answer ∙ c.if-is_mark.false) in
    carried c.block.result (block_first c.args.at w0 (sym c.is_word.ensures.answer ∙ c.if-is_word.true)) (c.block.ensures.answer d h k)

pub stmt_body-returns-then-is_word-2-clause-answer : goal.stmt_body-returns-then-is_word-2-clause-answer
stmt_body-returns-then-is_word-2-clause-answer t c = λ d h k.
    let w0 = not_empty c.args.at (sym c.is_mark.ensures.answer ∙ c.if-is_mark.false) in
    let w1 = not_block c.args.at w0 (sym c.is_word.ensures.answer ∙ c.if-is_word.false) in
    carried c.choice.result (choice_first c.args.at w1 (sym c.is_word-else-is_word.ensures.answer ∙ c.if-is_word-2.true)) (c.choice.ensures.answer d h k)

pub stmt_body-returns-then-is_word-3-clause-answer : goal.stmt_body-returns-then-is_word-3-clause-answer
stmt_body-returns-then-is_word-3-clause-answer t c = λ d h k.
    let w0 = not_empty c.args.at (sym c.is_mark.ensures.answer ∙ c.if-is_mark.false) in
    let w1 = not_block c.args.at w0 (sym c.is_word.ensures.answer ∙ c.if-is_word.false) in
    let w2 = not_choice c.args.at w1 (sym c.is_word-else-is_word.ensures.answer ∙ c.if-is_word-2.false) in
    carried c.cases.result (case_first c.args.at w2 (sym c.is_word-else-is_word-2.ensures.answer ∙ c.if-is_word-3.true)) (c.cases.ensures.answer d h k)

pub stmt_body-returns-then-is_word-4-clause-answer : goal.stmt_body-returns-then-is_word-4-clause-answer
stmt_body-returns-then-is_word-4-clause-answer t c = λ d h k.
    let w0 = not_empty c.args.at (sym c.is_mark.ensures.answer ∙ c.if-is_mark.false) in
    let w1 = not_block c.args.at w0 (sym c.is_word.ensures.answer ∙ c.if-is_word.false) in
    let w2 = not_choice c.args.at w1 (sym c.is_word-else-is_word.ensures.answer ∙ c.if-is_word-2.false) in
    let w3 = not_case c.args.at w2 (sym c.is_word-else-is_word-2.ensures.answer ∙ c.if-is_word-3.false) in
    carried c.cases-then-is_word-4.result (casez_first c.args.at w3 (sym c.is_word-else-is_word-3.ensures.answer ∙ c.if-is_word-4.true)) (c.cases-then-is_word-4.ensures.answer d h k)

pub stmt_body-returns-then-is_word-5-clause-answer : goal.stmt_body-returns-then-is_word-5-clause-answer
stmt_body-returns-then-is_word-5-clause-answer t c = λ d h k.
    let w0 = not_empty c.args.at (sym c.is_mark.ensures.answer ∙ c.if-is_mark.false) in
    let w1 = not_block c.args.at w0 (sym c.is_word.ensures.answer ∙ c.if-is_word.false) in
    let w2 = not_choice c.args.at w1 (sym c.is_word-else-is_word.ensures.answer ∙ c.if-is_word-2.false) in
    let w3 = not_case c.args.at w2 (sym c.is_word-else-is_word-2.ensures.answer ∙ c.if-is_word-3.false) in
    let w4 = not_casez c.args.at w3 (sym c.is_word-else-is_word-3.ensures.answer ∙ c.if-is_word-4.false) in
    carried c.turns.result (loop_first c.args.at w4 (sym c.is_word-else-is_word-4.ensures.answer ∙ c.if-is_word-5.true)) (c.turns.ensures.answer d h k)

pub stmt_body-returns-else-is_word-5-clause-answer : goal.stmt_body-returns-else-is_word-5-clause-answer
stmt_body-returns-else-is_word-5-clause-answer t c = λ d h k.
    let w0 = not_empty c.args.at (sym c.is_mark.ensures.answer ∙ c.if-is_mark.false) in
    let w1 = not_block c.args.at w0 (sym c.is_word.ensures.answer ∙ c.if-is_word.false) in
    let w2 = not_choice c.args.at w1 (sym c.is_word-else-is_word.ensures.answer ∙ c.if-is_word-2.false) in
    let w3 = not_case c.args.at w2 (sym c.is_word-else-is_word-2.ensures.answer ∙ c.if-is_word-3.false) in
    let w4 = not_casez c.args.at w3 (sym c.is_word-else-is_word-3.ensures.answer ∙ c.if-is_word-4.false) in
    let w5 = not_loop c.args.at w4 (sym c.is_word-else-is_word-4.ensures.answer ∙ c.if-is_word-5.false) in
    carried c.assignment.result w5 (c.assignment.ensures.answer d h)

pub stmts_to_end-returns-then-left-eq0-clause-answer : goal.stmts_to_end-returns-then-left-eq0-clause-answer
stmts_to_end-returns-then-left-eq0-clause-answer t c = λ d h k. c.no_stmts.ensures.answer d h (k ∙ ap most c.if-left-eq0.true)

pub stmt-returns-then-is_last-clause-answer : goal.stmt-returns-then-is_last-clause-answer
stmt-returns-then-is_last-clause-answer t c =
    let w = c.is_last.ensures.last c.if-is_last.true in stmt_last c.args.tokens.now.text c.args.tokens.now.list c.args.left c.args.at w.0 w.1

pub stmt-returns-else-is_last-clause-answer : goal.stmt-returns-else-is_last-clause-answer
stmt-returns-else-is_last-clause-answer t c = stmt_within c.args.tokens.now.text c.args.tokens.now.list c.args.left c.args.at c.stmt_body.result c.requires.room c.stmt_body.ensures.answer
