use Rattle.std.proofs.Common.{◌≡◌, ◌++◌, false, flat_map, take}
use Rattle.lv_source.specs.Declarations.{of_params}
use Rattle.lv_declared.specs.Listing.{all_declared}
use Rattle.lv_declared.proofs.add.add_groups.Given as goal

abbrev pub invariant-loop-group : goal.invariant-loop-group
invariant-loop-group l = all_declared l.list.items ≡ all_declared l.fn.list.items ++ flat_map (of_params false) (take l.group-index l.groups)
