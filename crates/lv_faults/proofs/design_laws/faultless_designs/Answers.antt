use Rattle.lv_faults.proofs.Unfixed.{all_clean}
use Rattle.lv_faults.proofs.design_laws.faultless_designs.Goals as goal

pub returns : goal.returns
returns c = all_clean
