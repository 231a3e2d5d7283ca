use Rattle.std.proofs.Common.{ℕ, Option, Some, refl, ap}
use Rattle.lv_grammar.specs.Rules as rules
use Rattle.lv_parser.proofs.Paths.{begin, through, then, last, refuse, refuse_last}
use Rattle.lv_parser.proofs.Fronts.{exit}
use Rattle.lv_ast.specs.declared.expr.Expr.{Expr}
use Rattle.lv_ast.specs.declared.stmt.Ident.{Ident}
use Rattle.lv_ast.specs.declared.item.Conn.{Conn}
use Rattle.lv_parser.proofs.Instead.{instead}
use Rattle.lv_parser.proofs.conns.named_conn.Goals as goal

abbrev conn_at : Option Ident → Option Expr → ℕ → Conn
conn_at name value place = record { name = name; value = value; place = place }

pub returns-in_err-dotted-clause-answer : goal.returns-in_err-dotted-clause-answer
returns-in_err-dotted-clause-answer c = λ d. exit _ c.from_residual.ensures.1 (refuse (through (begin rules.named_conn c.args.at refl)) (c.in_err-dotted.ensures.answer d) refl)

pub returns-in_err-name-clause-answer : goal.returns-in_err-name-clause-answer
returns-in_err-name-clause-answer c = λ d.
    let w1 = then (through (begin rules.named_conn c.args.at refl)) (c.in_ok-dotted.ensures.answer d) in
    exit _ c.from_residual-in_err-name.ensures.1 (refuse w1 (c.in_err-name.ensures.answer d) refl)

pub returns-in_err-inner-clause-answer : goal.returns-in_err-inner-clause-answer
returns-in_err-inner-clause-answer c = λ d.
    let w1 = then (through (begin rules.named_conn c.args.at refl)) (c.in_ok-dotted.ensures.answer d) in
    let w2 = then w1 (c.in_ok-name.ensures.answer d) in
    exit _ c.from_residual-in_err-inner.ensures.1 (refuse w2 (c.in_err-inner.ensures.answer d) refl)

pub returns-in_err-value-clause-answer : goal.returns-in_err-value-clause-answer
returns-in_err-value-clause-answer c = λ d.
    let w1 = then (through (begin rules.named_conn c.args.at refl)) (c.in_ok-dotted.ensures.answer d) in
    let w2 = then w1 (c.in_ok-name.ensures.answer d) in
    let w3 = then w2 (c.in_ok-inner.ensures.answer d) in
    exit _ c.from_residual-in_err-value.ensures.1 (refuse_last w3 (c.in_err-value.ensures.answer d))

pub returns-clause-answer : goal.returns-clause-answer
returns-clause-answer c = λ d.
    let w1 = then (through (begin rules.named_conn c.args.at refl)) (c.in_ok-dotted.ensures.answer d) in
    let w2 = then w1 (c.in_ok-name.ensures.answer d) in
    let w3 = then w2 (c.in_ok-inner.ensures.answer d) in
    instead (ap (conn_at (Some c.in_ok-name.name) c.in_ok-value.value) c.place.ensures) (last w3 (c.in_ok-value.ensures.answer d))
