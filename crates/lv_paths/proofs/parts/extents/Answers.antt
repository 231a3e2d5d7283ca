use Rattle.std.proofs.Common.{◌+◌, ◌∷◌, [], ◌++◌, List, map, take, sym, subst}
use Rattle.lv_source.specs.Views.{View}
use Rattle.lv_flat.specs.declared.part.FlatPart.{FlatPart}
use Rattle.lv_flat.specs.Signals.{Signals, declared_all}
use Rattle.lv_flat.specs.FlatViews.{flat_view}
use Rattle.lv_extents.specs.declared.extent.Extent.{Extent}
use Rattle.lv_extents.specs.Extents.{Each, IsExtent}
use Rattle.lv_extents.proofs.Lists.{map-more}
use Rattle.lv_extents.proofs.PartViews.{each-snoc}
use Rattle.lv_paths.proofs.parts.extents.Goals as goal

pub loop-part-preserved : goal.loop-part-preserved
loop-part-preserved c =
    let S : Signals = declared_all c.as_slice-signals.result.now in
    let parts : List FlatPart = c.as_slice-part-items.result.now in
    subst (λ (es : List Extent). Each (IsExtent S) (map (flat_view S) (take (c.loop-part.part-index + 1) parts)) es) (sym c.in_ok-push.ensures.items)
    (subst (λ (vs : List View). Each (IsExtent S) vs (c.loop-part.made.items ++ c.in_ok-r.r ∷ []))
    (sym (map-more (flat_view S) parts c.loop-part.part-index c.part-item.result c.loop-part-test.true c.part-item.is))
    (each-snoc (IsExtent S) (map (flat_view S) (take c.loop-part.part-index parts)) c.loop-part.made.items (flat_view S c.part-item.result) c.in_ok-r.r c.loop-part.invariant c.in_ok-r.ensures))
