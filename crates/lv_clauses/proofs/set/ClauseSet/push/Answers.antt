use Rattle.lv_clauses.proofs.Sets.{clauses-more}
use Rattle.lv_clauses.proofs.set.ClauseSet.push.Goals as goal

pub invariant_of-self : goal.invariant_of-self
invariant_of-self c = rw c.reserve.ensures.items c.self.invariant

pub invariant_of-self-2 : goal.invariant_of-self-2
invariant_of-self-2 c =
    rw (c.push_reserved.ensures.items, c.reserve.ensures.items) (clauses-more c.self.inside.vars c.self.inside.clauses.items c.args.clause c.self.invariant
    c.lits.ensures.kept (rw (← c.self.view_is) at c.requires))
