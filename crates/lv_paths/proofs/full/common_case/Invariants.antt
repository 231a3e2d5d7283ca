use Rattle.std.proofs.Common.{◌≡◌, ◌≤◌, length, drop}
use Rattle.lv_source.specs.Effect.{common_of}
use Rattle.lv_flat.specs.Signals.{declared_all}
use Rattle.lv_flat.specs.Judged.{reading}
use Rattle.lv_paths.specs.Fits.{common_width, all_labels}
use Rattle.lv_paths.proofs.full.common_case.Given as goal

abbrev pub invariant-loop-i : goal.invariant-loop-i
invariant-loop-i l = record {
  inside : l.i ≤ length l.arms;
  most : l.c.width ≤ 128;
  is : common_width l.c ≡ common_of (reading (declared_all l.signals) l.fn.x) (all_labels (declared_all l.signals) (drop l.i l.arms));
}

abbrev pub decreases-loop-i : goal.decreases-loop-i
decreases-loop-i l = l.i
