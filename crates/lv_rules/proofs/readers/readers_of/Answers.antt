use Rattle.std.proofs.Common.{◌<◌, ◌||◌, ◌&&◌, ◌==◌, not, take, length, sym, ap, subst, ◌∙◌, arith}
use Rattle.std.specs.List.{list_any}
use Rattle.lv_source.specs.PartRules.{others}
use Rattle.lv_extents.specs.declared.extent.Extent.{Extent}
use Rattle.lv_rules.specs.Drives.{names}
use Rattle.lv_rules.proofs.Sharers.{others-more}
use Rattle.lv_rules.proofs.readers.readers_of.Goals as goal

pub loop-part-preserved : goal.loop-part-preserved
loop-part-preserved c =
    let l : c.loop-part.part < length c.args.extents.now = omega arith in
    record {
      len = c.with_readers-readers.ensures.len ∙ c.loop-part.invariant.len;
      read = λ s k m.
          c.with_readers-readers.ensures.read s k (subst (λ n. s < n) (sym c.loop-part.invariant.len) m) ∙
          (ap (λ z. z || names s c.as_slice.result.now && not (c.loop-part.part == k)) (c.loop-part.invariant.read s k m) ∙
          (ap (λ sp. list_any (λ (x : Extent). names s x.reads) (others k (take c.loop-part.part c.args.extents.now)) || names s sp && not (c.loop-part.part == k)) c.as_slice.ensures ∙
          sym (others-more (λ (x : Extent). names s x.reads) c.args.extents.now c.loop-part.part k c.index-extents-part.result l c.index-extents-part.is)));
    }
