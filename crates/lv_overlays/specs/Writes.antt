-- What the writes of parts with a clock leave, where all parts read one valuation.
use Rattle.std.specs.Prelude.{List, [], ◌∷◌, map}
use Rattle.lv_source.specs.Names.{Valuation}
use Rattle.lv_source.specs.Effect.{applied}
use Rattle.lv_flat.specs.declared.part.FlatBody.{FlatBody}
use Rattle.lv_flat.specs.declared.part.FlatBody.TheVariants as b
use Rattle.lv_flat.specs.declared.part.FlatPart.{FlatPart}
use Rattle.lv_flat.specs.FlatViews.{flat_view}
use Rattle.lv_flat.specs.Signals.{Signals}
use Rattle.lv_lower_blocks.specs.Running.{writes_from}
use Rattle.lv_settles.specs.Clocked.{Overlay}

-- what the writes of a part that reads v leave of u, if it has a clock
abbrev pub writes_on : Signals → FlatBody → Valuation → Valuation → Valuation
writes_on S (b.Assign t x) v u = u
writes_on S (b.Combinational s) v u = u
writes_on S (b.Clocked e s) v u = applied u (writes_from S s v)

abbrev pub overlay_of : Signals → Valuation → FlatPart → Overlay
overlay_of S v p = (flat_view S p, writes_on S p.body v)

abbrev pub overlays_of : Signals → Valuation → List FlatPart → List Overlay
overlays_of S v ps = map (overlay_of S v) ps

-- the writes of all of them, one part after another
abbrev pub all_writes_on : Signals → List FlatPart → Valuation → Valuation → Valuation
all_writes_on S [] v u = u
all_writes_on S (p ∷ ps) v u = all_writes_on S ps v (writes_on S p.body v u)
