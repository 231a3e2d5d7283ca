use Rattle.lv_product.specs.Marks.{AreMarks}
use Rattle.lv_product.proofs.marks.pure_nodes.Given as goal

abbrev pub invariant-loop-k : goal.invariant-loop-k
invariant-loop-k l = AreMarks l.state l.graph l.k l.marks.items
