use Rattle.lv_ast.specs.Tokens.{is_mark}
use Rattle.lv_lexer.proofs.words.is_mark.Goals as goal

pub returns : goal.returns
unfolding is_mark
returns c = c.is_listed.ensures
