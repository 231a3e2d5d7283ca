use Rattle.std.proofs.Common.{◌-◌}
use Rattle.lv_trail.proofs.store.Store.clause.Goals as goal

pub returns-clause-within : goal.returns-clause-within
returns-clause-within c =
    (c.requires.sound.clauses (c.args.id - 1) c.lits.result.now c.lits.ensures).1
