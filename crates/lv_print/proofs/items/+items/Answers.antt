use Rattle.std.proofs.Common.{arith}
use Rattle.lv_print.specs.Sources.{item_tokens}
use Rattle.lv_print.proofs.Papers.{joined_turn, joined_end}
use Rattle.lv_print.proofs.Papers.{ok-same}
use Rattle.lv_print.proofs.SourceRules.{generate_written}
use Rattle.lv_print.proofs.items.+items.Goals as goal

pub items-loop-x-preserved : goal.items-loop-x-preserved
items-loop-x-preserved t c =
    joined_turn item_tokens c.args.list.now c.loop-x.x-index c.x-item.result c.loop-x.paper c.item.new.paper _ (omega arith) c.x-item.is c.in_ok-item.ensures c.loop-x.invariant

pub items-returns : goal.items-returns
items-returns t c = joined_end item_tokens c.args.list.now c.loop-x.x-index c.loop-x.paper _ (omega arith) c.loop-x.invariant

pub item-returns-in_ok-items-in-Generate : goal.item-returns-in_ok-items-in-Generate
item-returns-in_ok-items-in-Generate t c =
    ok-same _ _ _ _ c.word-in-Generate-2.ensures
    (generate_written c.args.x.now c.as_slice-in-Generate.result.now c.in-Generate.list c.args.paper.now _ _ c.in-Generate.is c.as_slice-in-Generate.ensures c.in_ok-word-in-Generate.ensures
    c.in_ok-items-in-Generate.ensures)
