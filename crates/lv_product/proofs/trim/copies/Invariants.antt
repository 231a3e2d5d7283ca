use Rattle.lv_product.proofs.Trimmed.{TrimmedTo}
use Rattle.lv_product.proofs.trim.copies.Given as goal

abbrev pub invariant-loop-k : goal.invariant-loop-k
invariant-loop-k l = TrimmedTo l.whole l.b l.k l.table.items
