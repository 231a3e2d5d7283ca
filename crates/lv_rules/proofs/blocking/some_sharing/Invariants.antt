use Rattle.std.proofs.Common.{◌≡◌, false, take}
use Rattle.std.specs.List.{list_any}
use Rattle.lv_flat.specs.Signals.{declared_all}
use Rattle.lv_rules.specs.Reads.{is_sharing_aim}
use Rattle.lv_rules.proofs.blocking.some_sharing.Given as goal

abbrev pub invariant-loop-a : goal.invariant-loop-a
invariant-loop-a l = list_any (is_sharing_aim (declared_all l.signals) l.late l.readers l.part) (take l.a-index l.aims) ≡ false
