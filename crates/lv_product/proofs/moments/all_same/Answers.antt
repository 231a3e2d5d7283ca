use Rattle.std.proofs.Common.{arith}
use Rattle.lv_product.proofs.Holding.{same_step}
use Rattle.lv_product.proofs.moments.all_same.Goals as goal

pub loop-k-preserved : goal.loop-k-preserved
loop-k-preserved c =
    same_step c.args.b.now c.loop-k.b c.same.new.b c.both.new.b c.args.graph.now c.loop-k.k c.loop-k.all c.in_ok-one.one c.in_ok-all-2.all c.at-node.result
    c.args.nodes.now c.args.left.now c.args.right.now
    c.requires.left c.requires.right (omega arith) c.at-node.ensures c.loop-k.invariant c.in_ok-one.ensures c.in_ok-all-2.ensures
