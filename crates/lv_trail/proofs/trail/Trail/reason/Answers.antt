use Rattle.lv_trail.proofs.trail.Trail.reason.Goals as goal

pub returns : goal.returns
returns c = rw (← c.self.view_is) c.reason.ensures
