use Rattle.std.proofs.Common.{◌≡◌, drop}
use Rattle.lv_ast.specs.Folds.{line_of}
use Rattle.lv_lexer.proofs.spans.first_of_line.Given as goal

abbrev pub invariant-loop-token : goal.invariant-loop-token
invariant-loop-token l = line_of l.after ≡ line_of (drop l.token-index l.after)
