use Rattle.std.proofs.Common.{◌≡◌, map, take}
use Rattle.toml.specs.View.{view}
use Rattle.lv_contract.specs.Values.{text_of}
use Rattle.lv_contract.specs.Named.{texts}
use Rattle.lv_contract.proofs.lists.constants.Given as goal

abbrev pub invariant-loop-value : goal.invariant-loop-value
invariant-loop-value l = texts l.list ≡ map (λ v. text_of (view v)) (take l.value-index l.values)
