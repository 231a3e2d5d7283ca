use Rattle.std.proofs.Common.{ap, sym, ◌∙◌}
use Rattle.lv_ast.specs.TokenLists.{opening}
use Rattle.lv_lexer.proofs.Comments.{no_byte}
use Rattle.lv_lexer.proofs.scan.opening.Goals as goal

pub returns-in-Some : goal.returns-in-Some
returns-in-Some c = c.after_first.ensures ∙ ap opening (sym c.in-Some.ensures)

pub returns-in-None : goal.returns-in-None
returns-in-None c = no_byte ∙ ap opening (sym c.in-None.ensures)
