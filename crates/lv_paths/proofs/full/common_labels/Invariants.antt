use Rattle.std.proofs.Common.{◌≡◌, ◌≤◌, length, map, drop}
use Rattle.lv_flat.specs.Signals.{declared_all}
use Rattle.lv_flat.specs.Executing.{label_of}
use Rattle.lv_paths.specs.Fits.{common_width, common_more}
use Rattle.lv_paths.proofs.full.common_labels.Given as goal

abbrev pub invariant-loop-i : goal.invariant-loop-i
invariant-loop-i l = record {
  inside : l.i ≤ length l.labels;
  most : l.c.width ≤ 128;
  is : common_width l.c ≡ common_more (map (label_of (declared_all l.signals)) (drop l.i l.labels)) (common_width l.fn.rest);
}

abbrev pub decreases-loop-i : goal.decreases-loop-i
decreases-loop-i l = l.i
