use Rattle.std.proofs.Common.{◌≡◌, map, take}
use Rattle.toml.specs.View.{view}
use Rattle.lv_contract.specs.Values.{items_of, texts_in}
use Rattle.lv_contract.specs.Named.{state_pair, pair_of}
use Rattle.lv_contract.proofs.lists.states.Given as goal

abbrev pub invariant-loop-entry : goal.invariant-loop-entry
invariant-loop-entry l = map state_pair l.list ≡ map (λ v. pair_of (texts_in (items_of (view v)))) (take l.entry l.values)
