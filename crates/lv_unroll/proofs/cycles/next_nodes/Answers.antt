use Rattle.std.proofs.Common.{◌∙◌, ◌++◌, ◌∷◌, [], List, ℕ, ap, arith}
use Rattle.lv_unroll.proofs.Unrolling.{next_step}
use Rattle.lv_unroll.proofs.cycles.next_nodes.Goals as goal

pub loop-k-preserved : goal.loop-k-preserved
loop-k-preserved c =
    next_step c.args.graph.now c.args.table.now c.loop-k.nodes.items c.push_reserved.new.self.items c.loop-k.k c.next_of.result c.at-node.result
    (omega arith) c.next_of.ensures.is c.at-node.ensures (c.push_reserved.ensures.items ∙
    ap (λ (xs : List ℕ). xs ++ c.at-node.result ∷ []) c.reserve.ensures.items) c.loop-k.invariant
