use Rattle.std.proofs.Common.{take}
use Rattle.lv_flat.specs.Signals.{declared_all}
use Rattle.lv_flat.specs.Cells.{all_cells}
use Rattle.lv_lower_blocks.specs.Aimed.{Aims, pieces_all}
use Rattle.lv_lower_blocks.proofs.aims.+aiming.Given as goal

abbrev pub invariant-loop-t : goal.invariant-loop-t
invariant-loop-t l =
    Aims l.initial.b l.b (declared_all l.signals) (all_cells (declared_all l.signals)) l.table (pieces_all (declared_all l.signals) (take l.t-index l.ts)) l.initial.found.items l.found.items
