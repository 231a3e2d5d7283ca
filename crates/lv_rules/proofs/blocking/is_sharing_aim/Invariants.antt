use Rattle.std.proofs.Common.{◌≡◌, false, take}
use Rattle.std.specs.List.{list_any}
use Rattle.lv_flat.specs.Signals.{declared_all}
use Rattle.lv_rules.specs.Reads.{is_sharing_span}
use Rattle.lv_rules.proofs.blocking.is_sharing_aim.Given as goal

abbrev pub invariant-loop-s : goal.invariant-loop-s
invariant-loop-s l = list_any (is_sharing_span (declared_all l.signals) l.late l.readers l.part) (take l.s-index l.s-items) ≡ false
