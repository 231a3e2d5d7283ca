use Rattle.std.proofs.Common.{◌≡◌, ◌++◌, take}
use Rattle.lv_extents.specs.Blocks.{aim_spans}
use Rattle.lv_paths.proofs.writes.add_bits.Given as goal

abbrev pub invariant-loop-aim : goal.invariant-loop-aim
invariant-loop-aim l = l.into ≡ l.fn.into ++ aim_spans (take l.aim-index l.aims)
