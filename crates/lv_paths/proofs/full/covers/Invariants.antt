use Rattle.std.proofs.Common.{◌≡◌, ℕ, ◌<◌, true}
use Rattle.std.specs.List.{list_any}
use Rattle.lv_bits.specs.Values.{extended}
use Rattle.lv_paths.specs.Fits.{is_fit}
use Rattle.lv_paths.proofs.full.covers.Given as goal

abbrev pub invariant-loop-y : goal.invariant-loop-y
invariant-loop-y l = (y : ℕ) → y < l.y → list_any (is_fit (extended l.signed l.from l.to y)) l.fits ≡ true
