use Rattle.std.proofs.Common.{◌∙◌, ◌++◌, ◌∷◌, [], List, ℕ, ap, arith}
use Rattle.lv_unroll.proofs.Copying.{copies_step}
use Rattle.lv_unroll.proofs.copies.copy.Goals as goal

pub loop-k-preserved : goal.loop-k-preserved
loop-k-preserved c =
    copies_step c.args.graph.now c.args.b.now c.loop-k.b c.copied.new.b c.args.state.now c.args.inputs.now c.loop-k.k c.in_ok-at.at c.as_slice.result.now
    c.loop-k.table.items c.push_reserved.new.self.items
    c.as_slice.ensures.value (c.push_reserved.ensures.items ∙ ap (λ (xs : List ℕ). xs ++ c.in_ok-at.at ∷ []) c.reserve.ensures.items)
    (omega arith) c.requires.state c.requires.inputs c.loop-k.invariant c.in_ok-at.ensures
