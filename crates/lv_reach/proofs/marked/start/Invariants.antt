use Rattle.std.proofs.Common.{◌≡◌}
use Rattle.lv_flat.specs.Signals.{declared_all}
use Rattle.lv_flat.specs.Cells.{AreDistinct, all_cells}
use Rattle.lv_reach.proofs.Started.{AreBelow}
use Rattle.lv_reach.proofs.marked.start.Given as goal

abbrev pub invariant-loop-k : goal.invariant-loop-k
invariant-loop-k l = AreBelow (declared_all l.signals) l.marks l.k l.set
