use Rattle.std.proofs.Common.{◌≡◌, false}
use Rattle.std.specs.List.{list_any}
use Rattle.lv_flat.specs.Signals.{declared_all}
use Rattle.lv_rules.specs.Reads.{is_blocking_part}
use Rattle.lv_rules.proofs.Sharers.{BeforeAt}
use Rattle.lv_rules.proofs.blocking.first_of.Given as goal

abbrev pub invariant-loop-part : goal.invariant-loop-part
invariant-loop-part l = BeforeAt (λ k x. list_any (is_blocking_part (declared_all l.signals) l.late l.readers k x) x.steps ≡ false) l.extents l.part
