use Rattle.lv_product.proofs.Holding.{met_gives}
use Rattle.lv_product.proofs.moments.met.Goals as goal

pub returns : goal.returns
returns c =
    met_gives c.args.b.now c.both.new.b c.args.graph.now c.in_ok-met.met c.args.k c.at-x.result c.at-y.result c.args.left.now c.args.right.now
    c.requires.within c.requires.left c.requires.right c.at-x.ensures c.at-y.ensures c.in_ok-met.ensures
