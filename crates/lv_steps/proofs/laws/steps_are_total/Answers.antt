use Rattle.lv_steps.proofs.Answered.{total}
use Rattle.lv_steps.proofs.laws.steps_are_total.Goals as goal

pub returns : goal.returns
returns c = total
