use Rattle.lv_trail.proofs.Valid.{valid, same_value}
use Rattle.lv_trail.proofs.trail.Trail.decide.Goals as goal

pub decide-requires-clause-closed : goal.decide-requires-clause-closed
decide-requires-clause-closed c = rw (← c.self.view_is) at c.requires.closed

pub returns-clause-valid : goal.returns-clause-valid
returns-clause-valid c = valid c.decide.new.self.store c.decide.ensures.watched.sound

pub returns-clause-value : goal.returns-clause-value
returns-clause-value c =
    let h = c.decide.ensures in
    rw (← c.self.view_is) (same_value _ _ h.same.0 h.same.1 h.entries h.level)
