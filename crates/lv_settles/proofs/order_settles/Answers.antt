use Rattle.lv_settles.proofs.Settling.{settles, keeps_start}
use Rattle.lv_settles.proofs.order_settles.Goals as goal

pub returns-clause-settled : goal.returns-clause-settled
returns-clause-settled c = λ ds vs order v laws right apart o start. settles ds vs order laws right o v start apart

pub returns-clause-kept : goal.returns-clause-kept
returns-clause-kept c = λ ds vs order v laws right apart o start. keeps_start ds vs order laws right o v start apart
