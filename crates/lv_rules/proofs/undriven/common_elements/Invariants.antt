use Rattle.lv_rules.proofs.Gaps.{AreElements}
use Rattle.lv_rules.proofs.undriven.common_elements.Given as goal

abbrev pub invariant-loop-e : goal.invariant-loop-e
invariant-loop-e l = AreElements l.driven l.k l.low l.e l.mask
