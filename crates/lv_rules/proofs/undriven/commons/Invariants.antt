use Rattle.lv_flat.specs.Signals.{declared_all}
use Rattle.lv_rules.proofs.Gaps.{AreBefore}
use Rattle.lv_rules.proofs.undriven.commons.Given as goal

abbrev pub invariant-loop-k : goal.invariant-loop-k
invariant-loop-k l = AreBefore (declared_all l.signals) l.comb l.driven l.masks.items l.k
