use Rattle.std.proofs.Common.{◌≡◌, drop, map}
use Rattle.lv_print.specs.Written.{commas}
use Rattle.lv_print.specs.Sources.{target_tokens}
use Rattle.lv_print.specs.Paper.{with_tokens}
use Rattle.lv_print.proofs.Papers.{left_of}
use Rattle.lv_print.proofs.statements.+targets.Given as goal

abbrev pub invariant-targets-loop-part : goal.invariant-targets-loop-part
invariant-targets-loop-part l = with_tokens l.paper (left_of l.first (map target_tokens (drop l.part-index l.list))) ≡ with_tokens l.initial.paper (commas (map target_tokens l.list))
