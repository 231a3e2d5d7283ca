use Rattle.lv_print.proofs.ExprLaw.{exprs_read_back}
use Rattle.lv_print.proofs.laws.exprs_read_back.Goals as goal

pub returns : goal.returns
returns c = exprs_read_back
