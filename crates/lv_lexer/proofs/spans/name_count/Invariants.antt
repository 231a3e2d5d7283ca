use Rattle.std.proofs.Common.{◌≡◌, ◌+◌, drop}
use Rattle.lv_ast.specs.Folds.{name_count}
use Rattle.lv_lexer.proofs.spans.name_count.Given as goal

abbrev pub invariant-loop-i : goal.invariant-loop-i
invariant-loop-i l = name_count l.after ≡ l.i + name_count (drop l.i l.after)
