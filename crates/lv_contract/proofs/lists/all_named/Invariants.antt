use Rattle.std.proofs.Common.{◌≡◌, map, take}
use Rattle.toml.specs.View.{view}
use Rattle.lv_contract.specs.Values.{text_of}
use Rattle.lv_contract.specs.Named.{texts}
use Rattle.lv_contract.proofs.lists.all_named.Given as goal

abbrev pub invariant-loop-at : goal.invariant-loop-at
invariant-loop-at l = texts l.list ≡ map (λ v. text_of (view v)) (take l.at l.values)
