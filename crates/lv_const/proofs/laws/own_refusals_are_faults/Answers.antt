use Rattle.lv_const.proofs.Refusals.{own-refused}
use Rattle.lv_const.proofs.laws.own_refusals_are_faults.Goals as goal

pub returns : goal.returns
returns c = own-refused
