use Rattle.std.proofs.Common.{◌≡◌, ℕ, ◌≤◌, ◌<◌, false, Some}
use Rattle.lv_paths.specs.Bits.{is_cell_open}
use Rattle.lv_paths.proofs.open.is_element_open.Given as goal

abbrev pub invariant-loop-e : goal.invariant-loop-e
invariant-loop-e l = (e : ℕ) → l.low ≤ e → e < l.e → is_cell_open l.written l.done.entries l.mask (l.signal, Some e) ≡ false
