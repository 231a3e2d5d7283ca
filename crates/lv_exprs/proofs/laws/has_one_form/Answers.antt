use Rattle.lv_exprs.proofs.Continued as laws
use Rattle.lv_exprs.proofs.laws.has_one_form.Goals as goal

pub returns : goal.returns
returns c = laws.has_one_form
