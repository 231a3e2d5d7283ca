use Rattle.std.proofs.Common.{ap, sym, ◌∙◌, ◌∷◌}
use Rattle.lv_ast.specs.TokenLists.{opening}
use Rattle.lv_lexer.proofs.Comments.{no_slash, one_byte}
use Rattle.lv_lexer.proofs.scan.after_first.Goals as goal

pub returns-then-first-ne47 : goal.returns-then-first-ne47
returns-then-first-ne47 c = no_slash _ _ c.if-first-ne47.true

pub returns-in-Some : goal.returns-in-Some
returns-in-Some c = c.after_slash.ensures ∙ (ap (λ d. opening (d ∷ c.in-Some.second ∷ c.in-Some.more.now)) (sym c.if-first-ne47.false) ∙ ap (λ l. opening (c.args.first ∷ l)) (sym c.in-Some.ensures))

pub returns-in-None : goal.returns-in-None
returns-in-None c = one_byte c.args.first ∙ ap (λ l. opening (c.args.first ∷ l)) (sym c.in-None.ensures)
