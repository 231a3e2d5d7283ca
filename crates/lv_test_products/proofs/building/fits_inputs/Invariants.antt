use Rattle.std.proofs.Common.{◌≡◌, ℕ, ◌<◌}
use Rattle.lv_netlist.specs.Net.{input_width}
use Rattle.lv_netlist.specs.Run.{bits_at}
use Rattle.lv_test_products.proofs.building.fits_inputs.Given as goal

abbrev pub invariant-loop-k : goal.invariant-loop-k
invariant-loop-k l = (i : ℕ) → i < l.k → (bits_at l.words i).width ≡ input_width l.graph i
