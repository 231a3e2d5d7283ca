use Rattle.std.proofs.Common.{arith}
use Rattle.lv_print.specs.Sources.{module_tokens}
use Rattle.lv_print.proofs.Papers.{joined_turn, joined_end}
use Rattle.lv_print.proofs.items.modules.Goals as goal

pub loop-m-preserved : goal.loop-m-preserved
loop-m-preserved c =
    joined_turn module_tokens c.args.list.now c.loop-m.m-index c.m-item.result c.loop-m.paper c.module.new.paper _ (omega arith) c.m-item.is c.in_ok-module.ensures c.loop-m.invariant

pub returns : goal.returns
returns c = joined_end module_tokens c.args.list.now c.loop-m.m-index c.loop-m.paper _ (omega arith) c.loop-m.invariant
