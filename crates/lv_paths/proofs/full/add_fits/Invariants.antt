use Rattle.std.proofs.Common.{◌≡◌, ◌++◌, map, take}
use Rattle.lv_flat.specs.Signals.{declared_all}
use Rattle.lv_paths.specs.Fits.{common_width, fit_of}
use Rattle.lv_paths.proofs.full.add_fits.Given as goal

abbrev pub invariant-loop-label : goal.invariant-loop-label
invariant-loop-label l = l.fits ≡ l.fn.fits ++ map (fit_of (declared_all l.signals) l.wild (common_width l.c)) (take l.label-index l.labels)
