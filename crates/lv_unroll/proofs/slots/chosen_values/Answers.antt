use Rattle.std.proofs.Common.{◌∙◌, ◌++◌, ◌∷◌, [], List, ℕ, ap, arith}
use Rattle.lv_unroll.proofs.Slotting.{chosen_step}
use Rattle.lv_unroll.proofs.slots.chosen_values.Goals as goal

pub loop-k-preserved : goal.loop-k-preserved
loop-k-preserved c =
    chosen_step c.args.b.now c.loop-k.b c.chosen.new.b c.args.c c.loop-k.k _ c.in_ok-value.value c.at.result c.at-in-loop-k.result c.args.xs.now c.args.ys.now
    c.loop-k.values.items c.push_reserved.new.self.items
    c.requires.left c.requires.right (omega arith) c.requires.test c.at.ensures c.at-in-loop-k.ensures (c.push_reserved.ensures.items ∙
    ap (λ (xs : List ℕ). xs ++ c.in_ok-value.value ∷ []) c.reserve.ensures.items) c.loop-k.invariant c.in_ok-value.ensures
