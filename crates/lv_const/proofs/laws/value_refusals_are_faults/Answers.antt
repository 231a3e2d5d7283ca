use Rattle.lv_const.proofs.Refusals.{value-refused}
use Rattle.lv_const.proofs.laws.value_refusals_are_faults.Goals as goal

pub returns : goal.returns
returns c = value-refused
