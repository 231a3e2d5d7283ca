use Rattle.std.proofs.Common.{◌≡◌, false, take}
use Rattle.std.specs.List.{list_any}
use Rattle.lv_rules.specs.Rules.{is_clock_aim}
use Rattle.lv_rules.proofs.aims.clock_in.Given as goal

abbrev pub invariant-loop-s : goal.invariant-loop-s
invariant-loop-s l = list_any (λ s. list_any is_clock_aim s.aims) (take l.s-index l.steps) ≡ false
