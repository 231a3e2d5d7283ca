use Rattle.lv_trail.proofs.trail.Trail.place.Goals as goal

pub returns : goal.returns
returns c = rw (← c.self.view_is) c.place.ensures
