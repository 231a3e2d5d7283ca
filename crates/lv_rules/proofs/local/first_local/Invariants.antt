use Rattle.lv_flat.specs.Signals.{declared_all}
use Rattle.lv_rules.specs.Rules.{local_at, unclocked}
use Rattle.lv_rules.proofs.Lists.{Before}
use Rattle.lv_rules.proofs.Answering.{IsClear}
use Rattle.lv_rules.proofs.local.first_local.Given as goal

abbrev pub invariant-loop-part : goal.invariant-loop-part
invariant-loop-part l = Before (IsClear (declared_all l.signals) (local_at l.rule (unclocked (declared_all l.signals)))) l.extents l.part
