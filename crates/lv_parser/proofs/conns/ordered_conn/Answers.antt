use Rattle.std.proofs.Common.{ℕ, Option, None, Some, refl, ap}
use Rattle.lv_grammar.specs.Rules as rules
use Rattle.lv_parser.proofs.Paths.{begin, through, last, refuse_last}
use Rattle.lv_parser.proofs.Fronts.{exit}
use Rattle.lv_ast.specs.declared.expr.Expr.{Expr}
use Rattle.lv_ast.specs.declared.stmt.Ident.{Ident}
use Rattle.lv_ast.specs.declared.item.Conn.{Conn}
use Rattle.lv_parser.proofs.Instead.{instead}
use Rattle.lv_parser.proofs.conns.ordered_conn.Goals as goal

abbrev conn_at : Option Ident → Option Expr → ℕ → Conn
conn_at name value place = record { name = name; value = value; place = place }

pub returns-in_err-value-clause-answer : goal.returns-in_err-value-clause-answer
returns-in_err-value-clause-answer c = λ d. exit _ c.from_residual.ensures.1 (refuse_last (through (begin rules.ordered_conn c.args.at refl)) (c.in_err-value.ensures.placed d))

pub returns-clause-answer : goal.returns-clause-answer
returns-clause-answer c = λ d.
    instead (ap (conn_at None (Some c.in_ok-value.value)) c.place.ensures) (last (through (begin rules.ordered_conn c.args.at refl)) (c.in_ok-value.ensures.placed d))
