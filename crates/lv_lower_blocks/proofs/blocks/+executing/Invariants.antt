use Rattle.std.proofs.Common.{◌≤◌, length, take, drop}
use Rattle.lv_flat.specs.Cells.{all_cells}
use Rattle.lv_flat.specs.Signals.{declared_all}
use Rattle.lv_lower_blocks.specs.Cased.{common_width, ArmsRun, arms_do}
use Rattle.lv_lower_blocks.specs.Running.{Runs, keeps_all}
use Rattle.lv_lower_blocks.proofs.blocks.+executing.Given as goal

abbrev pub invariant-block-loop-s : goal.invariant-block-loop-s
invariant-block-loop-s l =
    Runs l.initial.b l.b (all_cells (declared_all l.signals)) l.initial.now l.initial.done l.now l.done (λ st. keeps_all (declared_all l.signals) (take l.s-index l.body) st)

abbrev pub invariant-choose_arm-loop-i : goal.invariant-choose_arm-loop-i
invariant-choose_arm-loop-i l = record {
  inside : l.i ≤ length l.arms;
  is : ArmsRun l.initial.b l.b (all_cells (declared_all l.signals)) l.now l.done l.fn.base.now.items l.fn.base.done.items l.tables.now.items l.tables.done.items l.selector
      (arms_do (declared_all l.signals) l.wild (common_width l.c) (drop l.i l.arms));
}

abbrev pub decreases-choose_arm-loop-i : goal.decreases-choose_arm-loop-i
decreases-choose_arm-loop-i l = l.i
