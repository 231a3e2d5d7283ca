use Rattle.std.proofs.Common.{refl, sym, ap, subst, ◌∙◌, ◌≡◌, ◌∷◌, [], ◌++◌, List, ◌+◌, ◌/◌, ◌%◌, ◌^◌}
use Rattle.lv_values.specs.declared.value.Value.{Value}
use Rattle.lv_values.specs.Worlds.{Gives, number}
use Rattle.lv_values.specs.Picked.{AreBits}
use Rattle.lv_values.proofs.Growth.{grows-trans}
use Rattle.lv_values.proofs.Picking.{bits-more}
use Rattle.lv_values.proofs.index.bits_of.Goals as goal

pub loop-i-preserved : goal.loop-i-preserved
loop-i-preserved c =
    let g = subst (λ (v : Value). Gives c.loop-i.b c.cut.new.b c.in_ok-bit.bit 1 (λ w. number w v / 2 ^ c.loop-i.i % 2 ^ 1)) c.same.ensures c.in_ok-bit.ensures.is in
    let e : c.push_reserved.new.self.items ≡ c.loop-i.bits.items ++ c.in_ok-bit.bit ∷ [] = c.push_reserved.ensures.items ∙ ap (λ xs. xs ++ c.in_ok-bit.bit ∷ []) c.reserve.ensures.items in (
      grows-trans c.args.b.now c.loop-i.b c.cut.new.b c.loop-i.invariant.0 g.grows,
      subst (λ (xs : List Value). AreBits c.cut.new.b c.args.x.now xs (c.loop-i.i + 1)) (sym e) (bits-more c.loop-i.invariant.1 refl g),
    )
