use Rattle.lv_faults.proofs.ScopeFaults.{faultless}
use Rattle.lv_faults.proofs.laws.faultless_items_and_declarations.Goals as goal

pub returns : goal.returns
returns c = faultless
