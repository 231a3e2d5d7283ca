use Rattle.std.proofs.Common.{◌<◌, length, subst}
use Rattle.lv_declared.proofs.Adding.{adds-step, spread_all_of}
use Rattle.lv_declared.proofs.Labelled.{ok_to}
use Rattle.lv_declared.proofs.listed.+spread.Goals as goal

pub add_spread-returns-in-Generate : goal.add_spread-returns-in-Generate
add_spread-returns-in-Generate t c =
    ok_to _ _ _ (spread_all_of c.args.listed.now c.add_all.new.listed c.args.item.now c.in-Generate.items c.as_slice.result.now c.in-Generate.is c.as_slice.ensures)
    c.add_all.ensures

pub add_all-loop-item-preserved : goal.add_all-loop-item-preserved
add_all-loop-item-preserved t c =
    adds-step c.args.listed.now c.loop-item.listed c.add_spread.new.listed c.args.items.now c.loop-item.item-index c.item-item.result c.loop-item.invariant
    c.in_ok-add_spread.ensures c.loop-item-test.true c.item-item.is
