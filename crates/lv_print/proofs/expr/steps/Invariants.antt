use Rattle.std.proofs.Common.{◌≡◌, drop, map}
use Rattle.lv_print.specs.Written.{joined}
use Rattle.lv_print.specs.Expressions.{step_tokens}
use Rattle.lv_print.specs.Paper.{with_tokens}
use Rattle.lv_print.proofs.expr.steps.Given as goal

abbrev pub invariant-loop-s : goal.invariant-loop-s
invariant-loop-s l = with_tokens l.paper (joined (map step_tokens (drop l.s-index l.steps))) ≡ with_tokens l.initial.paper (joined (map step_tokens l.steps))
