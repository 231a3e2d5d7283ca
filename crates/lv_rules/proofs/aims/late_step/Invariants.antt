use Rattle.std.proofs.Common.{◌≡◌, false, take}
use Rattle.std.specs.List.{list_any}
use Rattle.lv_rules.specs.Rules.{is_late_step}
use Rattle.lv_rules.proofs.aims.late_step.Given as goal

abbrev pub invariant-loop-s : goal.invariant-loop-s
invariant-loop-s l = list_any is_late_step (take l.s-index l.steps) ≡ false
