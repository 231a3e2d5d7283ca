use Rattle.std.proofs.Common.{arith}
use Rattle.lv_print.specs.Sources.{target_tokens}
use Rattle.lv_print.proofs.Papers.{list_turn, list_end}
use Rattle.lv_print.proofs.statements.+targets.Goals as goal

pub targets-loop-part-preserved : goal.targets-loop-part-preserved
targets-loop-part-preserved t c =
    list_turn target_tokens c.args.list.now c.loop-part.part-index c.part-item.result c.loop-part.first c.loop-part.paper c.comma.new.self c.target.new.paper _ (omega arith) c.part-item.is
    c.in_ok-comma.ensures c.in_ok-target.ensures c.loop-part.invariant

pub targets-returns : goal.targets-returns
targets-returns t c = list_end target_tokens c.args.list.now c.loop-part.part-index c.loop-part.first c.loop-part.paper _ (omega arith) c.loop-part.invariant
