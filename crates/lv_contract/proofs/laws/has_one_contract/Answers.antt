use Rattle.lv_contract.proofs.OneContract.{one_contract}
use Rattle.lv_contract.proofs.laws.has_one_contract.Goals as goal

pub returns : goal.returns
returns c = one_contract
