use Rattle.std.proofs.Common.{ℕ, Vec, Global, ◌++◌, ◌∷◌, [], ◌∙◌, ap}
use Rattle.lv_steps.proofs.Reading.{joined_first, joined_next}
use Rattle.lv_steps.proofs.files.join.Goals as goal
use Rattle.lv_steps.proofs.files.join.Goals.{then-not-first+in_ok-extend_from_slice, else-not-first}

pub loop-part-preserved : goal.loop-part-preserved
loop-part-preserved c =
    elim c.if-not-first.branch [
      | then-not-first+in_ok-extend_from_slice w ↦
          joined_next c.args.parts.now c.loop-part.part-index c.part-item.result c.loop-part.text.items _ c.loop-part.first c.loop-part-test.true c.part-item.is c.loop-part.invariant w.if-not-first.true
          (c.in_ok-extend_from_slice-2.ensures.items ∙ ap (λ (v : Vec ℕ Global). v.items ++ c.bytes.result.now) w.text-is ∙
          ap (λ z. z ++ c.bytes.result.now) w.in_ok-extend_from_slice.ensures.items ∙ ap (λ z. (c.loop-part.text.items ++ 10 ∷ []) ++ z) c.bytes.ensures)
      | else-not-first w ↦
          joined_first c.args.parts.now c.loop-part.part-index c.part-item.result c.loop-part.text.items _ c.loop-part.first c.loop-part-test.true c.part-item.is c.loop-part.invariant w.if-not-first.false
          (c.in_ok-extend_from_slice-2.ensures.items ∙ ap (λ (v : Vec ℕ Global). v.items ++ c.bytes.result.now) w.text-is ∙ ap (λ z. c.loop-part.text.items ++ z) c.bytes.ensures)
    ]
