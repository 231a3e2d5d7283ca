use Rattle.std.proofs.Common.{arith}
use Rattle.lv_product.proofs.Holding.{met_step}
use Rattle.lv_product.proofs.moments.all_met.Goals as goal

pub loop-k-preserved : goal.loop-k-preserved
loop-k-preserved c =
    met_step c.args.b.now c.loop-k.b c.both.new.b c.args.graph.now c.loop-k.k c.loop-k.all c.in_ok-all-2.all c.at-node.result c.at-x.result c.args.nodes.now
    c.args.table.now
    c.requires.table c.requires.nodes (omega arith) c.at-node.ensures c.at-x.ensures c.loop-k.invariant c.in_ok-all-2.ensures
