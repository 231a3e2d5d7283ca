use Rattle.std.proofs.Common.{sym}
use Rattle.lv_contract.proofs.read.check_port.Goals as goal

pub returns-in-Err : goal.returns-in-Err
returns-in-Err c = (_, sym c.in-Some.ensures, c.in-Err.ensures)
