use Rattle.std.proofs.Common.{◌≡◌, false, take}
use Rattle.lv_paths.specs.Fits.{has_default}
use Rattle.lv_paths.proofs.full.has_default.Given as goal

abbrev pub invariant-loop-arm : goal.invariant-loop-arm
invariant-loop-arm l = has_default (take l.arm-index l.arms) ≡ false
