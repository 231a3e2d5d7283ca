use Rattle.std.proofs.Common.{◌≡◌, ◌≤◌, take}
use Rattle.lv_resolve_stmts.specs.Cases.{label_lists, defaults_in}
use Rattle.lv_resolve_stmts.proofs.cases.has_two_defaults.Given as goal

abbrev pub invariant-loop-arm : goal.invariant-loop-arm
invariant-loop-arm l = (l.count ≡ defaults_in (label_lists (take l.arm-index l.arms))) × (l.count ≤ l.arm-index)
