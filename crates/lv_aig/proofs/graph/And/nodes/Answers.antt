use Rattle.std.proofs.Common.{arith}
use Rattle.lv_aig.proofs.graph.And.nodes.Goals as goal

pub returns-clause-few : goal.returns-clause-few
returns-clause-few c = omega (arith, c.self.invariant.2, c.self.inside.nodes.ok.0, c.len.ensures)
