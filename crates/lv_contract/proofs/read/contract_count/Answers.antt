use Rattle.lv_contract.proofs.Ports.{count_is}
use Rattle.lv_contract.proofs.read.contract_count.Goals as goal

pub returns-in-Some : goal.returns-in-Some
returns-in-Some c = count_is c.array-entries.result.now _ _ c.array-entries.ensures c.in-Some.ensures
