use Rattle.std.proofs.Common.{map, take}
use Rattle.lv_declared.specs.Listing.{declared}
use Rattle.lv_bindings.specs.Grouping.{AreGrouped}
use Rattle.lv_bindings.proofs.groups.Groups.new.Given as goal

abbrev pub invariant-loop-declaration : goal.invariant-loop-declaration
invariant-loop-declaration l = AreGrouped (map declared (take l.declaration-index l.declarations)) l.groups
