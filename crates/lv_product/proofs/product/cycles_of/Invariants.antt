use Rattle.lv_product.specs.Pairs.{words_of}
use Rattle.lv_product.proofs.Opened.{PiecesSoFar}
use Rattle.lv_product.proofs.product.cycles_of.Given as goal

abbrev pub invariant-loop-k : goal.invariant-loop-k
invariant-loop-k l = PiecesSoFar l.count l._k l.words l.rest (words_of l.inputs.items)
