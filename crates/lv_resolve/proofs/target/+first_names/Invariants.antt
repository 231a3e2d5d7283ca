use Rattle.std.proofs.Common.{◌≡◌, drop, flat_map}
use Rattle.lv_source.specs.Names.{Names}
use Rattle.lv_source.specs.Sites.{Role, target_sites}
use Rattle.lv_const.specs.Places.{head_of}
use Rattle.lv_resolve.proofs.target.+first_names.Given as goal

abbrev pub invariant-first_of-loop-target : goal.invariant-first_of-loop-target
invariant-first_of-loop-target l = (names : Names) (role : Role) → head_of (flat_map (λ s. s.shown.places) (flat_map (target_sites names role) l.targets)) ≡
    head_of (flat_map (λ s. s.shown.places) (flat_map (target_sites names role) (drop l.target-index l.targets)))
