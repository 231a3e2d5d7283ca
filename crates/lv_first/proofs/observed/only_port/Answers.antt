use Rattle.std.proofs.Common.{sym, ◌∙◌}
use Rattle.lv_first.proofs.OneOf.{one_of}
use Rattle.lv_first.proofs.observed.only_port.Goals as goal

pub returns-in-len1 : goal.returns-in-len1
returns-in-len1 c = sym c.as_slice.ensures ∙ one_of c.as_slice.result.now c.port-item.result c.in-len1.len_at_least c.in-len1.len_below c.port-item.is
