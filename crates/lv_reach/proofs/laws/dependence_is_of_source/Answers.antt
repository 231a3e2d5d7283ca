use Rattle.lv_reach.proofs.Sources.{depends-there, depends-back}
use Rattle.lv_reach.proofs.laws.dependence_is_of_source.Goals as goal

pub returns : goal.returns
returns c = λ d is e. (depends-there d is (_), depends-back d is (_))
