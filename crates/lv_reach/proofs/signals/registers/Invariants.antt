use Rattle.std.proofs.Common.{◌≡◌, List, take, map}
use Rattle.lv_source.specs.Views.{View, is_register_view}
use Rattle.lv_flat.specs.Signals.{declared_all}
use Rattle.lv_extents.specs.Extents.{AreExtents}
use Rattle.lv_reach.proofs.signals.registers.Given as goal

abbrev pub invariant-loop-k : goal.invariant-loop-k
invariant-loop-k l = (vs : List View) → AreExtents (declared_all l.signals) vs l.extents → l.flags.items ≡ map (is_register_view vs) (take l.k (declared_all l.signals))
