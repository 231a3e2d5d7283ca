use Rattle.std.proofs.Common.{take}
use Rattle.std.specs.Prelude.{flat_map}
use Rattle.std.specs.List.{list_all}
use Rattle.lv_source.specs.Effect.{pieces}
use Rattle.lv_source.specs.Sites.{target_sites}
use Rattle.lv_resolve.specs.TargetJoins.{target_role}
use Rattle.lv_flat.specs.Signals.{declared_all}
use Rattle.lv_resolve.specs.Forms.{Anywhere}
use Rattle.lv_resolve.specs.Targets.{HasGoals, has_target_operands}
use Rattle.lv_resolve.proofs.target.+targets.Given as goal

abbrev pub invariant-target_forms-loop-target : goal.invariant-target_forms-loop-target
invariant-target_forms-loop-target g l = Anywhere (declared_all l.place.signals.now) (g.B.Bindings.numbers l.place.bindings.now) l.place.all.now l.place.early.now (λ here.
    HasGoals (declared_all l.place.signals.now) here (flat_map (target_sites here.names (target_role l.driven)) (take l.target-index l.targets)) (flat_map (pieces here.names) (take l.target-index l.targets))
    (list_all has_target_operands (take l.target-index l.targets)) l.found)
