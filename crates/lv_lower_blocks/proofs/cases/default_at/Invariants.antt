use Rattle.std.proofs.Common.{◌≤◌, length, drop}
use Rattle.lv_lower_blocks.specs.Cased.{AreLabelled}
use Rattle.lv_lower_blocks.proofs.cases.default_at.Given as goal

abbrev pub invariant-loop-i : goal.invariant-loop-i
invariant-loop-i l = record {
  inside : l.i ≤ length l.arms;
  labelled : AreLabelled (drop l.i l.arms);
}

abbrev pub decreases-loop-i : goal.decreases-loop-i
decreases-loop-i l = l.i
