use Rattle.lv_faults.proofs.Unfixed.{no_unfixed}
use Rattle.lv_faults.proofs.design_laws.faultless_scopes_have_fixed_targets.Goals as goal

pub returns : goal.returns
returns c = no_unfixed
