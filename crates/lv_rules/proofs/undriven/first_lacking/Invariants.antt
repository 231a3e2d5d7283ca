use Rattle.lv_flat.specs.Signals.{declared_all}
use Rattle.lv_rules.proofs.Lists.{Before}
use Rattle.lv_rules.proofs.Gaps.{ReadsCovered}
use Rattle.lv_rules.proofs.undriven.first_lacking.Given as goal

abbrev pub invariant-loop-part : goal.invariant-loop-part
invariant-loop-part l = Before (ReadsCovered (declared_all l.signals) l.comb l.driven) l.extents l.part
