use Rattle.std.proofs.Common.{◌+◌, Ok, refl, sym, ◌∙◌, arith}
use Rattle.lv_grammar.specs.Rules as rules
use Rattle.lv_parser.proofs.Paths.{begin, through, then, last, refuse, refuse_in, refuse_last, listed, list_refused, list_more, list_stops, list_ends}
use Rattle.lv_parser.proofs.Fronts.{exit, exit_placed}
use Rattle.lv_parser.proofs.Rooms.{is_target, target_rooms}
use Rattle.lv_parser.specs.Answers.{placed, placed_result}
use Rattle.lv_ast.specs.declared.stmt.Target.TheVariants as target
use Rattle.lv_parser.proofs.StatementPaths.{carried}
use Rattle.lv_parser.proofs.TargetPaths.{target_within, target_last, joined_next, named_next, named_target_read}
use Rattle.lv_parser.proofs.targets.+targets.Goals as goal

pub targets-returns-in_err-first-clause-answer : goal.targets-returns-in_err-first-clause-answer
targets-returns-in_err-first-clause-answer t c = λ d h.
    exit _ c.from_residual.ensures.1 (list_refused refl (refuse_last (through (begin (rules.target_tree) c.args.at refl)) (c.in_err-first.ensures.answer d h)))

pub targets-entries-init : goal.targets-entries-init
targets-entries-init t c = (
  λ d h. listed refl c.new-list.ensures c.in_ok-push.ensures (last (through (begin (rules.target_tree) c.args.at refl)) (c.in_ok-first.ensures.answer d h)),
  c.in_ok-first.ensures.ahead.0,
  c.in_ok-first.ensures.ahead.1,
)

pub targets-returns-in_err-more-clause-answer : goal.targets-returns-in_err-more-clause-answer
targets-returns-in_err-more-clause-answer t c = λ d h.
    exit _ c.from_residual-in_err-more.ensures.1 (list_stops (c.entries.invariant.0 d h) (sym c.is_mark.ensures.answer ∙ c.entries-test.true)
    (refuse_last (through (begin (rules.target_tree) (c.entries.end + 1) refl)) (c.in_err-more.ensures.answer d h)))

pub targets-entries-preserved : goal.targets-entries-preserved
targets-entries-preserved t c = (
  λ d h. list_more (c.entries.invariant.0 d h) (sym c.is_mark.ensures.answer ∙ c.entries-test.true) c.in_ok-push-2.ensures
      (last (through (begin (rules.target_tree) (c.entries.end + 1) refl)) (c.in_ok-more.ensures.answer d h)),
  omega (arith, c.in_ok-more.ensures.ahead.0, c.entries.invariant.1),
  c.in_ok-more.ensures.ahead.1,
)

pub targets-returns-clause-answer : goal.targets-returns-clause-answer
targets-returns-clause-answer t c = λ d h. list_ends (c.entries.invariant.0 d h) (sym c.is_mark.ensures.answer ∙ c.entries-test.false)

pub joined-returns-in_err-first-clause-answer : goal.joined-returns-in_err-first-clause-answer
joined-returns-in_err-first-clause-answer t c = λ d h. exit_placed _ c.from_residual.ensures.1 (refuse_in is_target (target_rooms h c.requires.room) (through (begin rules.joined c.args.at refl)) (c.in_err-first.ensures.answer d) refl)

pub joined-returns-in_err-list-clause-answer : goal.joined-returns-in_err-list-clause-answer
joined-returns-in_err-list-clause-answer t c = λ d h.
    let w1 = then (through (begin rules.joined c.args.at refl)) (c.in_ok-first.ensures.answer d) in
    exit_placed _ c.from_residual-in_err-list.ensures.1 (refuse w1 (c.in_err-list.ensures.answer d h) refl)

pub joined-returns-in_err-end-clause-answer : goal.joined-returns-in_err-end-clause-answer
joined-returns-in_err-end-clause-answer t c = λ d h.
    let w1 = then (through (begin rules.joined c.args.at refl)) (c.in_ok-first.ensures.answer d) in
    let w2 = then w1 (c.in_ok-list.ensures.answer d h) in
    exit_placed _ c.from_residual-in_err-end.ensures.1 (refuse_last w2 (c.in_err-end.ensures.answer d))

pub joined-returns-clause-answer : goal.joined-returns-clause-answer
joined-returns-clause-answer t c = λ d h.
    let w1 = then (through (begin rules.joined c.args.at refl)) (c.in_ok-first.ensures.answer d) in
    let w2 = then w1 (c.in_ok-list.ensures.answer d h) in
    last w2 (c.in_ok-end.ensures.answer d)

pub target-returns-then-left-eq1-clause-answer : goal.target-returns-then-left-eq1-clause-answer
target-returns-then-left-eq1-clause-answer t c =
    target_last c.args.tokens.now.text c.args.tokens.now.list c.args.left c.args.at c.if-left-eq1.true (sym c.is_mark.ensures.answer ∙ c.if-is_mark.true)

pub target-returns-then-is_mark-clause-answer : goal.target-returns-then-is_mark-clause-answer
target-returns-then-is_mark-clause-answer t c =
    target_within c.args.tokens.now.text c.args.tokens.now.list c.args.left c.args.at (placed_result c.args.tokens.now.text c.args.tokens.now.list c.args.at c.joined.result) c.requires.room
    (λ d h. carried (placed_result c.args.tokens.now.text c.args.tokens.now.list c.args.at c.joined.result) (joined_next c.args.tokens.now.text c.args.tokens.now.list d c.args.at (sym c.is_mark.ensures.answer ∙ c.if-is_mark.true)) (c.joined.ensures.answer d h))

pub target-returns-in_err-path-clause-answer : goal.target-returns-in_err-path-clause-answer
target-returns-in_err-path-clause-answer t c =
    target_within c.args.tokens.now.text c.args.tokens.now.list c.args.left c.args.at (placed_result c.args.tokens.now.text c.args.tokens.now.list c.args.at c.from_residual.result) c.requires.room
    (λ d h. exit_placed c.from_residual.result c.from_residual.ensures.1 (refuse_last (named_next c.args.tokens.now.text c.args.tokens.now.list d c.args.at (sym c.is_mark.ensures.answer ∙ c.if-is_mark.false)) (c.in_err-path.ensures.answer d)))

pub target-returns-clause-answer : goal.target-returns-clause-answer
target-returns-clause-answer t c =
    target_within c.args.tokens.now.text c.args.tokens.now.list c.args.left c.args.at (Ok (placed c.args.tokens.now.text c.args.tokens.now.list c.args.at (target.Name c.in_ok-path.path c.in_ok-path.selects), c.in_ok-path.end)) c.requires.room
    (λ d h. named_target_read c.args.tokens.now.text c.args.tokens.now.list d c.args.at (sym c.is_mark.ensures.answer ∙ c.if-is_mark.false) (c.in_ok-path.ensures.answer d))
