use Rattle.lv_lower.proofs.Concluding.{settling}
use Rattle.lv_lower.proofs.lowered.carried_table_settles.Goals as goal

pub returns : goal.returns
returns c = λ S vs order net table distinct laws right o carries. settling S vs order net table distinct laws right o carries
