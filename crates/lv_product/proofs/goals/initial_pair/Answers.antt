use Rattle.lv_product.proofs.Telling.{initial_gives}
use Rattle.lv_unroll.proofs.Growing.{extends_trans}
use Rattle.lv_product.proofs.Telling.{state_nodes}
use Rattle.lv_product.proofs.Holding.{table_kept}
use Rattle.lv_product.proofs.goals.initial_pair.Goals as goal

pub returns : goal.returns
returns c =
    initial_gives c.args.task.now c.args.b.now c.all_same.new.b c.all_met.new.b c.all_met-2.new.b c.both.new.b c.both-2.new.b
    c.in_ok-same.same c.in_ok-first.first c.in_ok-second.second c.in_ok-each.each c.in_ok-at.at
    c.as_slice.result.now c.as_slice-2.result.now c.as_slice-3.result.now c.args.left.now c.args.right.now
    c.as_slice.ensures.value c.as_slice-2.ensures.value c.as_slice-3.ensures.value c.requires.left c.requires.right
    c.in_ok-same.ensures c.in_ok-first.ensures c.in_ok-second.ensures c.in_ok-each.ensures c.in_ok-at.ensures

pub all_same-requires-clause-nodes : goal.all_same-requires-clause-nodes
all_same-requires-clause-nodes c = state_nodes c.args.task.now.graph c.args.task.now.equal.items c.as_slice.result.now c.as_slice.ensures.value
    c.args.task.now.fits.equal_is

pub all_met-requires-clause-table : goal.all_met-requires-clause-table
all_met-requires-clause-table c = table_kept c.args.b.now c.all_same.new.b c.args.task.now.graph c.args.left.now c.in_ok-same.ensures.extends
    c.requires.left

pub all_met-requires-clause-nodes : goal.all_met-requires-clause-nodes
all_met-requires-clause-nodes c = state_nodes c.args.task.now.graph c.args.task.now.each.items c.as_slice-2.result.now c.as_slice-2.ensures.value
    c.args.task.now.fits.each_is

pub all_met-requires-2-clause-table : goal.all_met-requires-2-clause-table
all_met-requires-2-clause-table c = table_kept c.args.b.now c.all_met.new.b c.args.task.now.graph c.args.right.now
    (extends_trans c.args.b.now c.all_same.new.b c.all_met.new.b c.in_ok-same.ensures.extends c.in_ok-first.ensures.extends) c.requires.right

pub all_met-requires-2-clause-nodes : goal.all_met-requires-2-clause-nodes
all_met-requires-2-clause-nodes c = state_nodes c.args.task.now.graph c.args.task.now.each.items c.as_slice-3.result.now c.as_slice-3.ensures.value
    c.args.task.now.fits.each_is
