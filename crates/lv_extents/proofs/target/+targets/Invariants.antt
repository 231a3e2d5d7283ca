use Rattle.std.proofs.Common.{map, flat_map, take, List}
use Rattle.lv_source.specs.Meaning.{index_reads}
use Rattle.lv_source.specs.Effect.{Piece}
use Rattle.lv_source.specs.Views.{aim_of}
use Rattle.lv_flat.specs.Signals.{declared_all}
use Rattle.lv_flat.specs.Executing.{pieces}
use Rattle.lv_extents.specs.Adds.{Adds, AddsAims}
use Rattle.lv_extents.proofs.target.+targets.Given as goal

abbrev pub invariant-add_all_aims-loop-t : goal.invariant-add_all_aims-loop-t
invariant-add_all_aims-loop-t l =
    AddsAims (declared_all l.signals) l.fn.aims l.aims (map aim_of (flat_map (λ (ps : List Piece). ps) (map (pieces (declared_all l.signals)) (take l.t-index l.ts))))
    × Adds (declared_all l.signals) l.fn.reads l.reads (flat_map (λ (p : Piece). index_reads p.choices) (flat_map (λ (ps : List Piece). ps) (map (pieces (declared_all l.signals))
    (take l.t-index l.ts))))
