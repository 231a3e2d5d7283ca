use Rattle.std.proofs.Common.{◌≡◌, take}
use Rattle.lv_first.specs.FirstForm.{port_names}
use Rattle.lv_first.proofs.signals.names_of_ports.Given as goal

abbrev pub invariant-loop-port : goal.invariant-loop-port
invariant-loop-port l = l.texts ≡ port_names l.output (take l.port-index l.ports)
