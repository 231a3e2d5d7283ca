use Rattle.std.proofs.Common.{take, map, [], flat_map}
use Rattle.std.specs.Prelude.{true, None}
use Rattle.lv_source.specs.Sites.{walk_select, step_sites}
use Rattle.lv_flat.specs.Signals.{declared_all}
use Rattle.lv_resolve.specs.Forms.{Anywhere, Covered}
use Rattle.lv_resolve.proofs.target.indices.Given as goal

abbrev pub invariant-loop-select : goal.invariant-loop-select
invariant-loop-select g l = Anywhere (declared_all l.place.signals.now) (g.B.Bindings.numbers l.place.bindings.now) l.place.all.now l.place.early.now
    (λ here. Covered here (λ W T. flat_map (step_sites true None) (map (walk_select here.names) (take l.select-index l.selects))) 0 [] [])
