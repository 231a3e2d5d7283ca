use Rattle.std.proofs.Common.{map, take}
use Rattle.std.specs.Prelude.{flat_map}
use Rattle.lv_source.specs.Summary.{Summary}
use Rattle.lv_flat.specs.Signals.{declared_all}
use Rattle.lv_flat.specs.Flows.{summary}
use Rattle.lv_extents.specs.Adds.{Adds}
use Rattle.lv_paths.specs.Ways.{arm_summary}
use Rattle.lv_paths.proofs.writes.+writes.Given as goal

abbrev pub invariant-add_all_written-loop-s : goal.invariant-add_all_written-loop-s
invariant-add_all_written-loop-s l =
    Adds (declared_all l.signals) l.fn.into l.into (flat_map (λ (p : Summary). p.written) (map (summary (declared_all l.signals)) (take l.s-index l.body)))

abbrev pub invariant-add_arms_written-loop-arm : goal.invariant-add_arms_written-loop-arm
invariant-add_arms_written-loop-arm l =
    Adds (declared_all l.signals) l.fn.into l.into (flat_map (λ (p : Summary). p.written) (map (arm_summary (declared_all l.signals)) (take l.arm-index l.arms)))
