use Rattle.std.proofs.Common.{◌≡◌, ◌+◌, drop}
use Rattle.lv_ast.specs.Folds.{line_count}
use Rattle.lv_lexer.proofs.spans.line_count.Given as goal

abbrev pub invariant-loop-i : goal.invariant-loop-i
invariant-loop-i l = line_count l.after ≡ l.i + line_count (drop l.i l.after)
