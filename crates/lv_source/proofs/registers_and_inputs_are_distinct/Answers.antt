use Rattle.lv_source.proofs.Distinct.{paths_distinct}
use Rattle.lv_source.proofs.registers_and_inputs_are_distinct.Goals as goal

pub returns : goal.returns
returns c = paths_distinct
