use Rattle.std.proofs.Common.{flat_map, take}
use Rattle.lv_ast.specs.Trees.{spread}
use Rattle.lv_declared.specs.Lists.{Adds}
use Rattle.lv_declared.proofs.listed.+spread.Given as goal

abbrev pub invariant-add_all-loop-item : goal.invariant-add_all-loop-item
invariant-add_all-loop-item l = Adds l.fn.listed l.listed (flat_map spread (take l.item-index l.items))
