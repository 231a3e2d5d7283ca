use Rattle.std.proofs.Common.{◌≡◌, ◌++◌, map, flat_map, take}
use Rattle.lv_declared.specs.Listing.{all_declared}
use Rattle.lv_source.specs.Declarations as s
use Rattle.lv_declared.proofs.add.add_nets.Given as goal

abbrev pub invariant-loop-net : goal.invariant-loop-net
invariant-loop-net l = all_declared l.list.items ≡ all_declared l.fn.list.items ++ map (λ n. s.declare (s.Wire l.signed l.range) n.name) (take l.net-index l.nets)
