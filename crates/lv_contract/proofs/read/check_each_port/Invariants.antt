use Rattle.std.proofs.Common.{◌≡◌, ℕ, ◌<◌, Some, true}
use Rattle.toml.specs.Data.{Members}
use Rattle.toml.specs.View.{items_view}
use Rattle.lv_contract.specs.declared.key.Level.TheVariants as level
use Rattle.lv_contract.specs.Values.{keeps}
use Rattle.lv_contract.specs.Parts.{port_in}
use Rattle.lv_contract.proofs.read.check_each_port.Given as goal

abbrev pub invariant-loop-value : goal.invariant-loop-value
invariant-loop-value l = (i : ℕ) → i < l.value-index → (port : Members) → port_in i (items_view l.values) ≡ Some port → keeps l.need level.Port port ≡ true
