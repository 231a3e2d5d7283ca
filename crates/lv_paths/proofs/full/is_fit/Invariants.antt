use Rattle.std.proofs.Common.{◌≡◌, false, take}
use Rattle.std.specs.List.{list_any}
use Rattle.lv_paths.specs.Fits.{is_fit}
use Rattle.lv_paths.proofs.full.is_fit.Given as goal

abbrev pub invariant-loop-f : goal.invariant-loop-f
invariant-loop-f l = list_any (is_fit l.x) (take l.f-index l.fits) ≡ false
