use Rattle.lv_model.proofs.Responding.{runs}
use Rattle.lv_model.proofs.runs_are_there.Goals as goal

pub returns : goal.returns
returns g c = runs g.V.Stateful.machine g.V.Stateful.same_state
