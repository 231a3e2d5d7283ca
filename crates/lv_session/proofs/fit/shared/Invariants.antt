use Rattle.std.proofs.Common.{◌≡◌, take}
use Rattle.lv_session.proofs.fit.shared.Given as goal

abbrev pub invariant-loop-k : goal.invariant-loop-k
invariant-loop-k l = take l.k l.made.clauses ≡ take l.k l.set.clauses
