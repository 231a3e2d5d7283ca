use Rattle.std.proofs.Common.{◌≡◌, false, take}
use Rattle.std.specs.List.{list_any}
use Rattle.lv_flat.specs.Signals.{declared_all, signal_at}
use Rattle.lv_extents.specs.Extents.{way_of}
use Rattle.lv_rules.specs.Rules.{is_misdriven}
use Rattle.lv_rules.proofs.local.is_misdriven.Given as goal

abbrev pub invariant-loop-s : goal.invariant-loop-s
invariant-loop-s l = list_any (λ s. is_misdriven (way_of l.way) (signal_at (declared_all l.signals) s.signal).sort) (take l.s-index l.s-items) ≡ false
