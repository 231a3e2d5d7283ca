use Rattle.std.proofs.Common.{◌≡◌, drop, map}
use Rattle.lv_print.specs.Written.{commas}
use Rattle.lv_print.specs.Paper.{with_tokens}
use Rattle.lv_print.proofs.Papers.{left_of}
use Rattle.lv_print.proofs.lists.commas.Given as goal

abbrev pub invariant-loop-item : goal.invariant-loop-item
invariant-loop-item g l = with_tokens l.paper (left_of l.first (map g.T.Print.tokens (drop l.item-index l.items))) ≡ with_tokens l.initial.paper (commas (map g.T.Print.tokens l.items))
