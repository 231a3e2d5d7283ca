use Rattle.lv_faults.proofs.DesignFaults.{told_by_parts}
use Rattle.lv_faults.proofs.design_laws.faultless_scopes.Goals as goal

pub returns : goal.returns
returns c = told_by_parts
