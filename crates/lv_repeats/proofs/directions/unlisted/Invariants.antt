use Rattle.std.proofs.Common.{◌≡◌, [], map, take, flat_map}
use Rattle.lv_scopes.specs.NameLists.{listed}
use Rattle.lv_declared.specs.Listing.{declared}
use Rattle.lv_repeats.specs.Directions.{unlisted_in}
use Rattle.lv_repeats.proofs.directions.unlisted.Given as goal

abbrev pub invariant-loop-declaration : goal.invariant-loop-declaration
invariant-loop-declaration l = flat_map (unlisted_in (listed l.names)) (map declared (take l.declaration-index l.declarations)) ≡ []
