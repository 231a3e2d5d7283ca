use Rattle.std.proofs.Common.{subst}
use Rattle.lv_clauses.specs.Sets.{SetValue, AreClauses}
use Rattle.lv_clauses.proofs.set.ClauseSet.kept.Goals as goal

pub returns-clause-clauses : goal.returns-clause-clauses
returns-clause-clauses c = subst (λ (s : SetValue). AreClauses s.vars s.clauses) c.self.view_is c.self.invariant
