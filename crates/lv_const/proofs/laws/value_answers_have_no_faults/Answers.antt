use Rattle.lv_const.proofs.Refusals.{value-formed}
use Rattle.lv_const.proofs.laws.value_answers_have_no_faults.Goals as goal

pub returns : goal.returns
returns c = value-formed
