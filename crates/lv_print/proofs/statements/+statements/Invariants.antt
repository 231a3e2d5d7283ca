use Rattle.std.proofs.Common.{◌≡◌, drop, map}
use Rattle.lv_print.specs.Written.{joined}
use Rattle.lv_print.specs.Sources.{stmt_tokens, arm_tokens}
use Rattle.lv_print.specs.Paper.{with_tokens}
use Rattle.lv_print.proofs.statements.+statements.Given as goal

abbrev pub invariant-stmts-loop-s : goal.invariant-stmts-loop-s
invariant-stmts-loop-s l = with_tokens l.paper (joined (map stmt_tokens (drop l.s-index l.list))) ≡ with_tokens l.initial.paper (joined (map stmt_tokens l.list))

abbrev pub invariant-arms-loop-a : goal.invariant-arms-loop-a
invariant-arms-loop-a l = with_tokens l.paper (joined (map arm_tokens (drop l.a-index l.list))) ≡ with_tokens l.initial.paper (joined (map arm_tokens l.list))
