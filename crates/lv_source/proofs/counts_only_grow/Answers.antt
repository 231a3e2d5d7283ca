use Rattle.lv_source.proofs.Walks.{of_done}
use Rattle.lv_source.proofs.counts_only_grow.Goals as goal

pub returns : goal.returns
returns c = of_done
