use Rattle.std.proofs.Common.{◌≡◌, map, take}
use Rattle.toml.specs.View.{view}
use Rattle.lv_contract.specs.Values.{text_of}
use Rattle.lv_contract.proofs.values.texts.Given as goal

abbrev pub invariant-loop-value : goal.invariant-loop-value
invariant-loop-value l = l.texts ≡ map (λ v. text_of (view v)) (take l.value-index l.values)
