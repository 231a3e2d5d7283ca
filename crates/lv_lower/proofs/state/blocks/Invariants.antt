use Rattle.std.proofs.Common.{take}
use Rattle.lv_extents.specs.Extents.{AreExtents}
use Rattle.lv_lower.specs.Slots.{names_of}
use Rattle.lv_lower.specs.Blocks.{combinational_views}
use Rattle.lv_lower.proofs.state.blocks.Given as goal

abbrev pub invariant-loop-part : goal.invariant-loop-part
invariant-loop-part l = AreExtents (names_of l.flat) (combinational_views (names_of l.flat) (take l.part-index l.part-items)) l.extents.items
