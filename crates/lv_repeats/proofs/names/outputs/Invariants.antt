use Rattle.std.proofs.Common.{map, take}
use Rattle.lv_declared.specs.Listing.{declared}
use Rattle.lv_repeats.specs.Named.{AreOutputs}
use Rattle.lv_repeats.proofs.names.outputs.Given as goal

abbrev pub invariant-loop-declaration : goal.invariant-loop-declaration
invariant-loop-declaration l = AreOutputs (map declared (take l.declaration-index l.declarations)) l.names
