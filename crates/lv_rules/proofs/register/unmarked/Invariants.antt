use Rattle.lv_flat.specs.Signals.{declared_all}
use Rattle.lv_rules.proofs.Unmarked.{AreSome}
use Rattle.lv_rules.proofs.register.unmarked.Given as goal

abbrev pub invariant-loop-k : goal.invariant-loop-k
invariant-loop-k l = AreSome (declared_all l.signals) l.marks l.flags.items l.k
