use Rattle.lv_model.proofs.Responding.{steppers_respond}
use Rattle.lv_model.proofs.steppers_respond.Goals as goal

pub returns : goal.returns
returns g c = steppers_respond g.S.Stepped.stepper
