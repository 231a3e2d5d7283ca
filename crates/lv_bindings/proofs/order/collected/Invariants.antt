use Rattle.std.proofs.Common.{◌≡◌, map, take, flat_map}
use Rattle.lv_source.specs.Parts.{numbered_from}
use Rattle.lv_scopes.specs.NameLists.{listed}
use Rattle.lv_declared.specs.Listing.{declared}
use Rattle.lv_bindings.specs.Order.{seen, standing_at, outside}
use Rattle.lv_bindings.proofs.order.collected.Given as goal

abbrev pub invariant-loop-index : goal.invariant-loop-index
invariant-loop-index l =
    map seen l.list.items ≡
    flat_map (standing_at (listed l.groups.names) (outside l.around) (map declared l.declarations) l.symbols) (numbered_from 0 (map declared (take l.index l.declarations)))
