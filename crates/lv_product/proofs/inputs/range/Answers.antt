use Rattle.std.proofs.Common.{◌∙◌, ◌++◌, ◌∷◌, ◌+◌, [], List, ℕ, ap, refl}
use Rattle.lv_product.proofs.Opened.{range_step}
use Rattle.lv_product.proofs.inputs.range.Goals as goal

pub loop-k-preserved : goal.loop-k-preserved
loop-k-preserved c =
    range_step c.args.from c.loop-k.k (c.args.from + c.loop-k.k) c.loop-k.nodes.items c.push_reserved.new.self.items
    refl (c.push_reserved.ensures.items ∙ ap (λ (xs : List ℕ). xs ++ (c.args.from + c.loop-k.k) ∷ []) c.reserve.ensures.items) c.loop-k.invariant
