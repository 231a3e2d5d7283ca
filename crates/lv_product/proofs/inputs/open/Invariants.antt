use Rattle.lv_product.proofs.Opened.{Opening}
use Rattle.lv_product.proofs.inputs.open.Given as goal

abbrev pub invariant-loop-k : goal.invariant-loop-k
invariant-loop-k l = Opening l.widths l.k l.b
