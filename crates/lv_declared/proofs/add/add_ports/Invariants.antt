use Rattle.std.proofs.Common.{◌≡◌, ◌++◌, flat_map, take}
use Rattle.lv_source.specs.Declarations.{of_port}
use Rattle.lv_declared.specs.Listing.{all_declared}
use Rattle.lv_declared.proofs.add.add_ports.Given as goal

abbrev pub invariant-loop-port : goal.invariant-loop-port
invariant-loop-port l = all_declared l.list.items ≡ all_declared l.fn.list.items ++ flat_map of_port (take l.port-index l.ports)
