use Rattle.lv_exprs.proofs.Continued as laws
use Rattle.lv_exprs.proofs.laws.nothing_goes_on.Goals as goal

pub returns : goal.returns
returns c = laws.nothing_goes_on
