use Rattle.std.proofs.Common.{◌≡◌, ◌++◌, take}
use Rattle.std.specs.Prelude.{flat_map}
use Rattle.lv_declared.specs.Listing.{all_declared}
use Rattle.lv_entries.specs.Entries.{value_entry}
use Rattle.lv_entries.proofs.scope.add_parameters.Given as goal

abbrev pub invariant-loop-declaration : goal.invariant-loop-declaration
invariant-loop-declaration l = l.into.items ≡ l.initial.into.items ++ flat_map (value_entry l.consts) (all_declared (take l.declaration-index l.declarations))
