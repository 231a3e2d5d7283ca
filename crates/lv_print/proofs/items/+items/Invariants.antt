use Rattle.std.proofs.Common.{◌≡◌, drop, map}
use Rattle.lv_print.specs.Written.{joined}
use Rattle.lv_print.specs.Sources.{item_tokens}
use Rattle.lv_print.specs.Paper.{with_tokens}
use Rattle.lv_print.proofs.items.+items.Given as goal

abbrev pub invariant-items-loop-x : goal.invariant-items-loop-x
invariant-items-loop-x l = with_tokens l.paper (joined (map item_tokens (drop l.x-index l.list))) ≡ with_tokens l.initial.paper (joined (map item_tokens l.list))
