use Rattle.std.proofs.Common.{ℕ, refl, ap, arith}
use Rattle.lv_grammar.specs.Rules as rules
use Rattle.lv_parser.proofs.Paths.{begin, through, then, last, refuse_in, refuse_last}
use Rattle.lv_parser.proofs.Fronts.{exit}
use Rattle.lv_parser.proofs.Rooms.{is_inner, stmt_rooms}
use Rattle.lv_ast.specs.declared.stmt.Stmt.{Stmt}
use Rattle.lv_ast.specs.declared.item.Watch.{Watch}
use Rattle.lv_ast.specs.declared.item.Item.{Item}
use Rattle.lv_ast.specs.declared.item.Item.TheVariants as item
use Rattle.lv_parser.proofs.Instead.{instead}
use Rattle.lv_parser.proofs.items.always.Goals as goal

abbrev always_at : Watch → Stmt → ℕ → Item
always_at watch body place = item.Always watch body place

pub returns-in_err-sign-clause-answer : goal.returns-in_err-sign-clause-answer
returns-in_err-sign-clause-answer c = λ d t s. exit _ c.from_residual.ensures.1 (refuse_in is_inner (stmt_rooms t s (omega arith)) (through (begin rules.always c.args.at refl)) (c.in_err-sign.ensures.answer d) refl)

pub returns-in_err-watched-clause-answer : goal.returns-in_err-watched-clause-answer
returns-in_err-watched-clause-answer c = λ d t s.
    let w1 = then (through (begin rules.always c.args.at refl)) (c.in_ok-sign.ensures.answer d) in
    exit _ c.from_residual-in_err-watched.ensures.1 (refuse_in is_inner (stmt_rooms t s (omega arith)) w1 (c.in_err-watched.ensures.answer d) refl)

pub returns-in_err-watch-clause-answer : goal.returns-in_err-watch-clause-answer
returns-in_err-watch-clause-answer c = λ d t s.
    let w1 = then (through (begin rules.always c.args.at refl)) (c.in_ok-sign.ensures.answer d) in
    let w2 = then w1 (c.in_ok-watched.ensures.answer d) in
    exit _ c.from_residual-in_err-watch.ensures.1 (refuse_in is_inner (stmt_rooms t s (omega arith)) w2 (c.in_err-watch.ensures.answer d) refl)

pub returns-in_err-body-clause-answer : goal.returns-in_err-body-clause-answer
returns-in_err-body-clause-answer c = λ d t s.
    let w1 = then (through (begin rules.always c.args.at refl)) (c.in_ok-sign.ensures.answer d) in
    let w2 = then w1 (c.in_ok-watched.ensures.answer d) in
    let w3 = then w2 (c.in_ok-watch.ensures.answer d) in
    exit _ c.from_residual-in_err-body.ensures.1 (refuse_last w3 (c.in_err-body.ensures.answer d t s))

pub returns-clause-answer : goal.returns-clause-answer
returns-clause-answer c = λ d t s.
    let w1 = then (through (begin rules.always c.args.at refl)) (c.in_ok-sign.ensures.answer d) in
    let w2 = then w1 (c.in_ok-watched.ensures.answer d) in
    let w3 = then w2 (c.in_ok-watch.ensures.answer d) in
    instead (ap (always_at c.in_ok-watch.watch c.in_ok-body.body) c.place.ensures) (last w3 (c.in_ok-body.ensures.answer d t s))
