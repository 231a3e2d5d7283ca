use Rattle.std.proofs.Common.{◌≡◌, flat_map, take}
use Rattle.lv_source.specs.Scopes.{settable}
use Rattle.lv_declared.specs.Listing.{all_declared}
use Rattle.lv_links.specs.Linking.{idents}
use Rattle.lv_links.proofs.listed.list_settable.Given as goal

abbrev pub invariant-loop-declaration : goal.invariant-loop-declaration
invariant-loop-declaration l = idents l.names.items ≡ flat_map settable (all_declared (take l.declaration-index l.declarations))
