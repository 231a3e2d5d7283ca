use Rattle.lv_product.proofs.Telling.{allowed_gives}
use Rattle.lv_product.proofs.Telling.{input_nodes}
use Rattle.lv_product.proofs.goals.allowed.Goals as goal

pub returns : goal.returns
returns c =
    allowed_gives c.args.task.now c.args.b.now c.all_met.new.b c.in_ok-at.at c.as_slice.result.now c.args.table.now c.as_slice.ensures.value
    c.in_ok-at.ensures

pub all_met-requires-clause-nodes : goal.all_met-requires-clause-nodes
all_met-requires-clause-nodes c = input_nodes c.args.task.now.graph c.args.task.now.assume.items c.as_slice.result.now c.as_slice.ensures.value
    c.args.task.now.fits.assume_is
