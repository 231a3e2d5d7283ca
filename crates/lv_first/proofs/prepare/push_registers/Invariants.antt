use Rattle.std.proofs.Common.{◌≡◌, ◌++◌, take, map}
use Rattle.lv_ast.specs.declared.item.RegName.{RegName}
use Rattle.lv_first.proofs.prepare.push_registers.Given as goal

abbrev pub invariant-loop-name : goal.invariant-loop-name
invariant-loop-name l = l.texts ≡ l.initial.texts ++ map (λ (r : RegName). r.name.name) (take l.name-index l.names)
