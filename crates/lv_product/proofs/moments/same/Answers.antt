use Rattle.lv_product.proofs.Holding.{same_gives}
use Rattle.lv_product.proofs.moments.same.Goals as goal

pub returns : goal.returns
returns c =
    same_gives c.args.b.now c.equal.new.b c.args.graph.now c.in_ok-same.same c.args.k c.at-x.result c.at-y.result c.args.left.now c.args.right.now
    c.requires.within c.requires.left c.requires.right c.at-x.ensures c.at-y.ensures c.in_ok-same.ensures
