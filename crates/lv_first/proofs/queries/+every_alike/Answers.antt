use Rattle.lv_first.proofs.Alike.{nil_every}
use Rattle.lv_first.proofs.queries.+every_alike.Goals as goal

pub returns-in-empty : goal.returns-in-empty
returns-in-empty t c = nil_every _ _ _ c.in-empty.len_below
