use Rattle.std.proofs.Common.{arith}
use Rattle.std.proofs.lemmas.Grind.{common_steps}
use Rattle.lv_cert.proofs.Numbers.{none_empty}
use Rattle.lv_cert.proofs.number.number_of.Goals as goal

pub returns-then-is_empty : goal.returns-then-is_empty
returns-then-is_empty c = λ n h e. none_empty c.args.letters.now (grind (arith, common_steps)) n h e
