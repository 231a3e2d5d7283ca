use Rattle.std.proofs.Common.{sym, ◌∙◌}
use Rattle.lv_first.proofs.OneOf.{one_of}
use Rattle.lv_first.proofs.judging.only_module.Goals as goal

pub returns-in-len1 : goal.returns-in-len1
returns-in-len1 c = sym c.as_slice.ensures ∙ one_of c.as_slice.result.now c.design-item.result c.in-len1.len_at_least c.in-len1.len_below c.design-item.is
