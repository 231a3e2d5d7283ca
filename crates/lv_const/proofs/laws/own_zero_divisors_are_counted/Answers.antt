use Rattle.lv_const.proofs.Refusals.{own-counted}
use Rattle.lv_const.proofs.laws.own_zero_divisors_are_counted.Goals as goal

pub returns : goal.returns
returns c = own-counted
