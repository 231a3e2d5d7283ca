use Rattle.std.proofs.Common.{◌≡◌, take}
use Rattle.lv_session.specs.Session.{with_units}
use Rattle.lv_session.proofs.fit.add_units.Given as goal

abbrev pub invariant-loop-lit : goal.invariant-loop-lit
invariant-loop-lit l = l.made ≡ with_units l.fn.made (take l.lit-index l.lits)
