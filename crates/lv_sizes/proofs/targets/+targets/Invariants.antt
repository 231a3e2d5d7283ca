use Rattle.std.proofs.Common.{◌≡◌, ◌+◌, drop}
use Rattle.lv_source.specs.Limits.{target_nodes}
use Rattle.lv_sizes.specs.Counts.{added}
use Rattle.lv_sizes.proofs.targets.+targets.Given as goal

abbrev pub invariant-spend_targets-loop-target : goal.invariant-spend_targets-loop-target
invariant-spend_targets-loop-target l = l.left + added target_nodes l.targets ≡ l.fn.left + added target_nodes (drop l.target-index l.targets)
