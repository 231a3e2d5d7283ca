use Rattle.lv_trail.proofs.Valid.{valid}
use Rattle.lv_trail.proofs.trail.Trail.len.Goals as goal

pub returns-clause-valid : goal.returns-clause-valid
returns-clause-valid c = rw (← c.self.view_is) (valid c.self.inside.watched.store c.self.invariant.sound)
