use Rattle.lv_source.proofs.Walks.{of_first}
use Rattle.lv_source.proofs.items_only_add.Goals as goal

pub returns : goal.returns
returns c = of_first
