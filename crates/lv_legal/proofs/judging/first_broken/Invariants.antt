use Rattle.lv_flat.specs.Signals.{declared_all}
use Rattle.lv_legal.proofs.Kept.{AreKeptSo}
use Rattle.lv_legal.proofs.judging.first_broken.Given as goal

abbrev pub invariant-loop-rule : goal.invariant-loop-rule
invariant-loop-rule l = AreKeptSo l.clock (declared_all l.signals) l.extents l.rule-index
