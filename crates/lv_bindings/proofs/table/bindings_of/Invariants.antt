use Rattle.std.proofs.Common.{◌≡◌, map, take}
use Rattle.lv_bindings.specs.Order.{seen}
use Rattle.lv_bindings.specs.Tables.{plain_bindings, assigned}
use Rattle.lv_bindings.proofs.table.bindings_of.Given as goal

abbrev pub invariant-loop-index : goal.invariant-loop-index
invariant-loop-index l = l.bindings.items ≡ assigned l.first (map seen (take l.index l.order)) (plain_bindings l.symbols l.groups)
