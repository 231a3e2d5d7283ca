use Rattle.lv_flat.specs.Signals.{declared_all}
use Rattle.lv_rules.specs.Wires.{IsCovered}
use Rattle.lv_rules.proofs.Lists.{Before}
use Rattle.lv_rules.proofs.undriven.lacks_some.Given as goal

abbrev pub invariant-loop-s : goal.invariant-loop-s
invariant-loop-s l = Before (IsCovered (declared_all l.signals) l.comb l.driven) l.spans l.s-index
