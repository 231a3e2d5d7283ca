use Rattle.lv_unroll.specs.Entries.{entry_length}
use Rattle.lv_unroll.proofs.Agreeing.{BothSoFar}
use Rattle.lv_unroll.proofs.compare.agreement.Given as goal

abbrev pub invariant-loop-k : goal.invariant-loop-k
invariant-loop-k l = BothSoFar l.fn.b l.b (entry_length l.ports) l.ports l.left l.right l.ls.items l.rs.items l.k
