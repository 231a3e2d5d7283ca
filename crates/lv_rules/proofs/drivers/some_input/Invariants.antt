use Rattle.std.proofs.Common.{◌≡◌, false, take}
use Rattle.std.specs.List.{list_any}
use Rattle.lv_source.specs.Names.{is_input_sort}
use Rattle.lv_flat.specs.Signals.{declared_all, signal_at}
use Rattle.lv_rules.proofs.drivers.some_input.Given as goal

abbrev pub invariant-loop-s : goal.invariant-loop-s
invariant-loop-s l = list_any (λ s. is_input_sort (signal_at (declared_all l.signals) s.signal).sort) (take l.s-index l.spans) ≡ false
