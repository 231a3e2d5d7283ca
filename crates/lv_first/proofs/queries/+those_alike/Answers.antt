use Rattle.lv_first.proofs.Alike.{nil_those}
use Rattle.lv_first.proofs.queries.+those_alike.Goals as goal

pub returns-in-empty : goal.returns-in-empty
returns-in-empty t c = nil_those _ _ _ c.in-empty.len_below
