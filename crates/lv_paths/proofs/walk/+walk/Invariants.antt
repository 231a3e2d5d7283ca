use Rattle.std.proofs.Common.{map, take}
use Rattle.lv_source.specs.Summary.{all_summaries}
use Rattle.lv_flat.specs.Signals.{declared_all}
use Rattle.lv_flat.specs.Flows.{summary}
use Rattle.lv_paths.specs.Ways.{Walks, IsFork, arm_summary}
use Rattle.lv_paths.proofs.walk.+walk.Given as goal

abbrev pub invariant-walk_block-loop-s : goal.invariant-walk_block-loop-s
invariant-walk_block-loop-s l = Walks (declared_all l.signals) l.written l.fn.done.entries l.done.entries l.fn.log l.log l.fn.exposed l.r
    (all_summaries (map (summary (declared_all l.signals)) (take l.s-index l.body)))

abbrev pub invariant-walk_arms-loop-arm : goal.invariant-walk_arms-loop-arm
invariant-walk_arms-loop-arm l = IsFork (declared_all l.signals) l.written l.fn.done.entries l.done.entries l.fn.exposed l.fork.exposed l.fork.shared l.can
    (map (arm_summary (declared_all l.signals)) (take l.arm-index l.arms))
