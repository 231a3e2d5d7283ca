use Rattle.lv_source.proofs.Unique.{unique}
use Rattle.lv_source.proofs.settled_valuation_is_one.Goals as goal

pub returns : goal.returns
returns c = λ d v w legal sv sw sr si. unique d legal v w sv sw sr si
