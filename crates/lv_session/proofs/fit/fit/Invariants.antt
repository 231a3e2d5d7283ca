use Rattle.std.proofs.Common.{◌≡◌, take}
use Rattle.lv_session.proofs.fit.fit.Given as goal

abbrev pub invariant-loop-k : goal.invariant-loop-k
invariant-loop-k l = l.made ≡ record { vars = l.set.vars; clauses = take l.k l.set.clauses }
