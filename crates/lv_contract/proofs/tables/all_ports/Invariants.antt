use Rattle.std.proofs.Common.{◌≡◌, map, take}
use Rattle.toml.specs.View.{view}
use Rattle.lv_contract.specs.Values.{members_of}
use Rattle.lv_contract.specs.Named.{port_texts}
use Rattle.lv_contract.specs.Says.{port_at}
use Rattle.lv_contract.proofs.tables.all_ports.Given as goal

abbrev pub invariant-loop-at : goal.invariant-loop-at
invariant-loop-at l = map port_texts l.ports ≡ map (λ v. port_at (members_of (view v))) (take l.at l.values)
