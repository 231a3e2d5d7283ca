use Rattle.lv_source.proofs.Exists.{exists}
use Rattle.lv_source.proofs.Drives.{has_apart}
use Rattle.lv_source.proofs.settled_valuation_is_there.Goals as goal

pub returns : goal.returns
returns c = λ d s legal plain fits. exists d legal (has_apart d legal plain) s fits
