use Rattle.lv_unroll.proofs.Growing.{node_gives}
use Rattle.lv_unroll.proofs.wires.add.Goals as goal

pub returns : goal.returns
returns c = node_gives c.args.b.now c.node.new.self c.in_ok-at.at c.args.node c.in_ok-at.ensures.is c.in_ok-at.ensures.number
