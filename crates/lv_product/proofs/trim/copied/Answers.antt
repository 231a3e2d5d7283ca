use Rattle.lv_product.proofs.Trimmed.{input_copied}
use Rattle.lv_product.proofs.trim.copied.Goals as goal

pub returns-in-Input : goal.returns-in-Input
returns-in-Input c =
    input_copied c.args.whole.now c.args.b.now c.args.k c.in-Input.i c.node-node.result (c.requires.within) c.requires.inputs c.in-Input.is
    c.node-node.ensures.is c.node-node.ensures.typed
