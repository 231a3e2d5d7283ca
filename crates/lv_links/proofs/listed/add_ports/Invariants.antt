use Rattle.std.proofs.Common.{◌≡◌, ◌++◌, flat_map, take}
use Rattle.lv_links.specs.Linking.{idents}
use Rattle.lv_links.proofs.listed.add_ports.Given as goal

abbrev pub invariant-loop-port : goal.invariant-loop-port
invariant-loop-port l = idents l.list.items ≡ idents l.fn.list.items ++ flat_map (λ a. a.names) (take l.port-index l.ports)
