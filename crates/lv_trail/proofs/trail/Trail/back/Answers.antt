use Rattle.lv_trail.proofs.Valid.{valid}
use Rattle.lv_trail.proofs.trail.Trail.back.Goals as goal

pub returns-clause-valid : goal.returns-clause-valid
returns-clause-valid c = valid c.back.new.self.store c.back.ensures.watched.sound
