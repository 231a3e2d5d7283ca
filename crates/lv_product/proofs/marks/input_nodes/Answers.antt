use Rattle.std.proofs.Common.{length, refl}
use Rattle.lv_product.proofs.Marking.{input_marked}
use Rattle.lv_product.proofs.marks.input_nodes.Goals as goal

pub returns-clause-are : goal.returns-clause-are
returns-clause-are c = input_marked c.args.graph.now (length c.args.graph.now.nodes) c.in_ok-marks.marks.items refl c.in_ok-marks.ensures
