use Rattle.lv_unroll.specs.Copies.{Copies}
use Rattle.lv_unroll.proofs.copies.copy.Given as goal

abbrev pub invariant-loop-k : goal.invariant-loop-k
invariant-loop-k l = Copies l.graph l.fn.b l.b l.state l.inputs l.k l.table.items
