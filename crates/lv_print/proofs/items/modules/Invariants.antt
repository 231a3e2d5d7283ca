use Rattle.std.proofs.Common.{◌≡◌, drop, map}
use Rattle.lv_print.specs.Written.{joined}
use Rattle.lv_print.specs.Sources.{module_tokens}
use Rattle.lv_print.specs.Paper.{with_tokens}
use Rattle.lv_print.proofs.items.modules.Given as goal

abbrev pub invariant-loop-m : goal.invariant-loop-m
invariant-loop-m l = with_tokens l.paper (joined (map module_tokens (drop l.m-index l.list))) ≡ with_tokens l.initial.paper (joined (map module_tokens l.list))
