use Rattle.lv_const.proofs.Refusals.{own-formed}
use Rattle.lv_const.proofs.laws.own_answers_have_no_faults.Goals as goal

pub returns : goal.returns
returns c = own-formed
