use Rattle.std.proofs.Common.{◌≡◌, drop}
use Rattle.lv_flat.specs.Signals.{declared_all}
use Rattle.lv_flat.specs.Cells.{all_cells}
use Rattle.lv_lower_blocks.specs.Aimed.{aims_width, Written}
use Rattle.lv_lower_blocks.proofs.puts.write.Given as goal

abbrev pub invariant-loop-aim : goal.invariant-loop-aim
invariant-loop-aim l = record {
  left : l.left ≡ aims_width (declared_all l.signals) (drop l.aim-index l.aims);
  is : Written l.initial.b l.b (declared_all l.signals) (all_cells (declared_all l.signals)) l.initial.table l.table l.aims l.aim-index l.x;
}
