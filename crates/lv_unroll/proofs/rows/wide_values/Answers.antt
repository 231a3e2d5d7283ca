use Rattle.std.proofs.Common.{◌∙◌, ◌++◌, ◌∷◌, [], List, ℕ, ap, arith}
use Rattle.lv_unroll.proofs.Rowing.{wide_step}
use Rattle.lv_unroll.proofs.rows.wide_values.Goals as goal

pub loop-k-preserved : goal.loop-k-preserved
loop-k-preserved c =
    wide_step c.args.b.now c.loop-k.b c.wide.new.b c.loop-k.k c.in_ok-value.value c.at.result c.at-node.result c.args.nodes.now c.args.table.now
    c.loop-k.values.items c.push_reserved.new.self.items
    c.requires.table c.requires.nodes (omega arith) c.at-node.ensures c.at.ensures (c.push_reserved.ensures.items ∙
    ap (λ (xs : List ℕ). xs ++ c.in_ok-value.value ∷ []) c.reserve.ensures.items) c.loop-k.invariant c.in_ok-value.ensures
