use Rattle.std.proofs.Common.{◌≡◌, Bool, List, map}
use Rattle.lv_source.specs.Names.{Declared}
use Rattle.lv_source.specs.Views.{View}
use Rattle.lv_flat.specs.Cells.{AreDistinct, all_cells}
use Rattle.lv_flat.specs.Signals.{Signals}
use Rattle.lv_reach.specs.Spreading.{IsOrdered, IsStart, IsPassed}
use Rattle.lv_reach.proofs.spread.pass.Given as goal

abbrev pub invariant-loop-k : goal.invariant-loop-k
invariant-loop-k l = (S : Signals) (vs : List View) (is : Declared → Bool) (marks : List Bool) → AreDistinct (all_cells S) → IsOrdered S vs l.extents l.order →
    IsStart S marks l.fn.start → marks ≡ map is S → IsPassed S vs is l.order l.fn.start l.set l.k-index
