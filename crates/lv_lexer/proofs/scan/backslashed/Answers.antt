use Rattle.std.proofs.Common.{sym, ◌∙◌}
use Rattle.std.proofs.lemmas.Bool.{ne_eqb}
use Rattle.lv_ast.specs.Tokens.{after_backslash}
use Rattle.lv_lexer.proofs.Longest.{nil_found}
use Rattle.lv_lexer.proofs.Backslash.{nothing, join_newline, join_return, escaped_name, no_backslashed}
use Rattle.lv_lexer.proofs.scan.backslashed.Goals as goal

pub returns-in_err-first : goal.returns-in_err-first
returns-in_err-first c = nil_found after_backslash _ _ nothing c.in_err-first.ensures c.from_residual.ensures

pub returns-then-first-eq10 : goal.returns-then-first-eq10
returns-then-first-eq10 c = join_newline _ _ _ c.in_ok-first.ensures c.if-first-eq10.true

pub returns-then-is_return : goal.returns-then-is_return
returns-then-is_return c = join_return _ _ _ c.in_ok-first.ensures (sym c.is_return.ensures ∙ c.if-is_return.true)

pub returns-then-is_printed : goal.returns-then-is_printed
returns-then-is_printed c = escaped_name _ _ _ c.in_ok-first.ensures (sym c.is_printed.ensures ∙ c.if-is_printed.true) _ c.front.ensures.value

pub returns-else-is_printed : goal.returns-else-is_printed
returns-else-is_printed c =
    no_backslashed _ _ _ c.in_ok-first.ensures (ne_eqb _ 10 c.if-first-eq10.false) (sym c.is_return.ensures ∙ c.if-is_return.false) (sym c.is_printed.ensures ∙ c.if-is_printed.false)
