use Rattle.std.proofs.Common.{ap, ◌∙◌}
use Rattle.lv_ast.specs.Tokens.{tail}
use Rattle.lv_ast.specs.Folds.{word_of}
use Rattle.lv_lexer.proofs.spans.word.Goals as goal

pub returns : goal.returns
unfolding word_of
returns c = c.after_first.ensures ∙ ap tail c.token_bytes.ensures
