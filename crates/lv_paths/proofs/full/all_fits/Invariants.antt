use Rattle.std.proofs.Common.{◌≡◌, take}
use Rattle.std.specs.Prelude.{flat_map}
use Rattle.lv_flat.specs.Signals.{declared_all}
use Rattle.lv_paths.specs.Fits.{common_width, fits_of}
use Rattle.lv_paths.proofs.full.all_fits.Given as goal

abbrev pub invariant-loop-arm : goal.invariant-loop-arm
invariant-loop-arm l = l.fits ≡ flat_map (fits_of (declared_all l.signals) l.wild (common_width l.c)) (take l.arm-index l.arms)
