use Rattle.lv_trail.proofs.Valid.{valid}
use Rattle.lv_trail.proofs.trail.Trail.propagate.Goals as goal

pub returns-clause-valid : goal.returns-clause-valid
returns-clause-valid c = valid c.propagate.new.self.store c.propagate.ensures.grown.sound
