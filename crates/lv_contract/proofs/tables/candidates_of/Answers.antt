use Rattle.std.proofs.Common.{arith, refl}
use Rattle.lv_contract.specs.declared.key.Key.TheVariants as k
use Rattle.lv_contract.proofs.tables.candidates_of.Goals as goal

pub returns-in-Err : goal.returns-in-Err
returns-in-Err c = (k.Equal, (1, omega arith, refl), c.in-Err.ensures)

pub returns-in-Err-pairs : goal.returns-in-Err-pairs
returns-in-Err-pairs c = (k.When, (2, omega arith, refl), c.in-Err-pairs.ensures)

pub returns-in-Err-expressions : goal.returns-in-Err-expressions
returns-in-Err-expressions c = (k.Each, (3, omega arith, refl), c.in-Err-expressions.ensures)
