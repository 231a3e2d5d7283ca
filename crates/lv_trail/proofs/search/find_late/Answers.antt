use Rattle.std.proofs.Common.{arith}
use Rattle.lv_clauses.proofs.Literals.{has-item}
use Rattle.lv_trail.proofs.search.find_late.Goals as goal

pub list_of-requires : goal.list_of-requires
list_of-requires c =
    let w = c.requires.within c.x-item.result (has-item c.args.clause.now c.loop-x.x-index c.x-item.result c.loop-x-test.true c.x-item.is) in
    omega (arith, w.1, c.requires.few)

pub level-requires-clause-within : goal.level-requires-clause-within
level-requires-clause-within c = rw c.var.ensures.is (c.requires.within c.x-item.result (has-item c.args.clause.now c.loop-x.x-index c.x-item.result c.loop-x-test.true c.x-item.is))
