use Rattle.lv_product.proofs.Holding.{off_gives}
use Rattle.lv_product.proofs.moments.off.Goals as goal

pub returns : goal.returns
returns c =
    off_gives c.args.b.now c.negated.new.b c.args.graph.now c.in_ok-off.off c.args.k c.at-x.result c.args.table.now
    c.requires.within c.requires.table c.at-x.ensures c.in_ok-off.ensures
