use Rattle.lv_product.specs.Sharing.{Shares}
use Rattle.lv_product.proofs.sharing.shared.Given as goal

abbrev pub invariant-loop-k : goal.invariant-loop-k
invariant-loop-k l = Shares l.graph l.fn.b l.b l.candidates l.numbers l.left l.right l.k l.nodes.items l.all
