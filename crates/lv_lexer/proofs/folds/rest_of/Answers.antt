use Rattle.lv_lexer.proofs.Branches.{rest_take}
use Rattle.lv_lexer.proofs.folds.rest_of.Goals as goal

pub returns-else-is_empty : goal.returns-else-is_empty
returns-else-is_empty c = rest_take c.args.line.now
