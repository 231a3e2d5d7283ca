use Rattle.lv_product.proofs.Telling.{all_ports, next_gives}
use Rattle.lv_product.proofs.Telling.{ports_in, nodes_in}
use Rattle.lv_product.proofs.goals.next_aligned.Goals as goal

pub returns : goal.returns
returns c =
    next_gives c.args.task.now c.args.b.now c.matching.new.b c.both.new.b c.in_ok-same.same c.in_ok-at.at c.args.aligned _ c.as_slice.result.now
    c.args.left.now c.args.right.now
    c.as_slice.ensures.value (all_ports _ c.args.task.now.ports.items c.args.task.now.fits.ports_are) c.requires.left c.requires.right c.requires.aligned
    c.in_ok-same.ensures c.in_ok-at.ensures

pub matching-requires-clause-ports : goal.matching-requires-clause-ports
matching-requires-clause-ports c = ports_in c.args.b.now c.args.task.now.graph c.args.left.now c.as_slice.result.now c.args.task.now.ports.items
    c.as_slice.ensures.value c.requires.left (all_ports _ c.args.task.now.ports.items c.args.task.now.fits.ports_are)

pub matching-requires-clause-left : goal.matching-requires-clause-left
matching-requires-clause-left c = nodes_in c.args.b.now c.args.task.now.graph c.args.left.now c.requires.left

pub matching-requires-clause-right : goal.matching-requires-clause-right
matching-requires-clause-right c = nodes_in c.args.b.now c.args.task.now.graph c.args.right.now c.requires.right
