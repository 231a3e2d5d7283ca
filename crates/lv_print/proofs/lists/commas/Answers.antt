use Rattle.std.proofs.Common.{arith}
use Rattle.lv_print.proofs.Papers.{list_turn, list_end}
use Rattle.lv_print.proofs.lists.commas.Goals as goal

pub loop-item-preserved : goal.loop-item-preserved
loop-item-preserved g c =
    list_turn g.T.Print.tokens c.args.items.now c.loop-item.item-index c.item-item.result c.loop-item.first c.loop-item.paper c.comma.new.self c.print.new.paper _ (omega arith)
    c.item-item.is c.in_ok-comma.ensures c.in_ok-print.ensures c.loop-item.invariant

pub returns : goal.returns
returns g c = list_end g.T.Print.tokens c.args.items.now c.loop-item.item-index c.loop-item.first c.loop-item.paper _ (omega arith) c.loop-item.invariant
