use Rattle.std.proofs.Common.{◌≡◌, ◌++◌, map, take}
use Rattle.lv_source.specs.Declarations.{declare}
use Rattle.lv_declared.specs.Listing.{all_declared, thing_of}
use Rattle.lv_declared.proofs.add.add_names.Given as goal

abbrev pub invariant-loop-name : goal.invariant-loop-name
invariant-loop-name l = all_declared l.list.items ≡ all_declared l.fn.list.items ++ map (declare (thing_of l.thing)) (take l.name-index l.names)
