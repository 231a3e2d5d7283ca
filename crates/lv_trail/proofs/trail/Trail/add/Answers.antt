use Rattle.lv_trail.proofs.Valid.{valid}
use Rattle.lv_trail.proofs.trail.Trail.add.Goals as goal

pub returns-clause-valid : goal.returns-clause-valid
returns-clause-valid c = valid c.add.new.self.store c.add.ensures.watched.sound
