use Rattle.std.proofs.Common.{◌≡◌, false, take}
use Rattle.std.specs.List.{list_any}
use Rattle.lv_rules.specs.Rules.{is_clock_aim}
use Rattle.lv_rules.proofs.aims.clock_among.Given as goal

abbrev pub invariant-loop-a : goal.invariant-loop-a
invariant-loop-a l = list_any is_clock_aim (take l.a-index l.aims) ≡ false
