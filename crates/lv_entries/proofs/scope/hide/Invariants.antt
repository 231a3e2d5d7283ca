use Rattle.std.proofs.Common.{◌≡◌, ◌++◌, map, take}
use Rattle.lv_source.specs.Constants.{hidden}
use Rattle.lv_declared.specs.Listing.{all_declared}
use Rattle.lv_entries.specs.Entries.{declared_entries}
use Rattle.lv_entries.proofs.scope.hide.Given as goal

abbrev pub invariant-loop-declaration : goal.invariant-loop-declaration
invariant-loop-declaration l = declared_entries l.into.items ≡ declared_entries l.initial.into.items ++ map hidden (all_declared (take l.declaration-index l.declarations))
