use Rattle.std.proofs.Common.{◌≡◌, take}
use Rattle.lv_bindings.specs.Tables.{plain_bindings}
use Rattle.lv_bindings.proofs.table.plain_of.Given as goal

abbrev pub invariant-loop-group : goal.invariant-loop-group
invariant-loop-group l = l.bindings.items ≡ plain_bindings l.symbols (take l.group-index l.groups)
