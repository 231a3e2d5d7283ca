use Rattle.std.proofs.Common.{map, take}
use Rattle.lv_flat.specs.Signals.{declared_all}
use Rattle.lv_flat.specs.FlatViews.{flat_view}
use Rattle.lv_extents.specs.Extents.{Each, IsExtent}
use Rattle.lv_paths.proofs.parts.extents.Given as goal

abbrev pub invariant-loop-part : goal.invariant-loop-part
invariant-loop-part l = Each (IsExtent (declared_all l.signals)) (map (flat_view (declared_all l.signals)) (take l.part-index l.part-items)) l.made.items
