use Rattle.std.proofs.Common.{◌≡◌, take}
use Rattle.lv_flat.specs.Signals.{declared_all}
use Rattle.lv_lower_blocks.specs.Aimed.{aims_width}
use Rattle.lv_lower_blocks.proofs.aims.aims_width.Given as goal

abbrev pub invariant-loop-aim : goal.invariant-loop-aim
invariant-loop-aim l = l.sum ≡ aims_width (declared_all l.signals) (take l.aim-index l.aims)
