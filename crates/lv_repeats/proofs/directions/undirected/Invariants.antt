use Rattle.std.proofs.Common.{◌≡◌, List, [], take, flat_map}
use Rattle.lv_source.specs.Declarations.{Declaration}
use Rattle.lv_bindings.specs.Grouping.{AreGrouped}
use Rattle.lv_repeats.specs.Directions.{undirected_in}
use Rattle.lv_repeats.proofs.directions.undirected.Given as goal

abbrev pub invariant-loop-name : goal.invariant-loop-name
invariant-loop-name l = (ds : List Declaration) → AreGrouped ds l.groups → flat_map (undirected_in ds) (take l.name-index l.names) ≡ []
