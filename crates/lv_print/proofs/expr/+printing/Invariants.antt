use Rattle.std.proofs.Common.{◌≡◌, drop, map}
use Rattle.lv_print.specs.Written.{joined, commas}
use Rattle.lv_print.specs.Expressions.{expr_tokens, select_tokens}
use Rattle.lv_print.specs.Paper.{with_tokens}
use Rattle.lv_print.proofs.Papers.{left_of}
use Rattle.lv_print.proofs.expr.+printing.Given as goal

abbrev pub invariant-exprs-loop-e : goal.invariant-exprs-loop-e
invariant-exprs-loop-e l = with_tokens l.paper (left_of l.first (map expr_tokens (drop l.e-index l.list))) ≡ with_tokens l.initial.paper (commas (map expr_tokens l.list))

abbrev pub invariant-selects-loop-s : goal.invariant-selects-loop-s
invariant-selects-loop-s l = with_tokens l.paper (joined (map select_tokens (drop l.s-index l.selects))) ≡ with_tokens l.initial.paper (joined (map select_tokens l.selects))
