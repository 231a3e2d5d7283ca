use Rattle.lv_flat.specs.Signals.{declared_all}
use Rattle.lv_rules.proofs.Sharing.{AreShared}
use Rattle.lv_rules.proofs.drivers.first_shared.Given as goal

abbrev pub invariant-loop-part : goal.invariant-loop-part
invariant-loop-part l = AreShared (declared_all l.signals) l.clocked l.unclocked l.extents l.driven l.part
