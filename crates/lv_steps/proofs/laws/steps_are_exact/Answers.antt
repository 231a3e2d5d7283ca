use Rattle.lv_steps.proofs.Inputs.{exact}
use Rattle.lv_steps.proofs.laws.steps_are_exact.Goals as goal

pub returns : goal.returns
returns c = exact
