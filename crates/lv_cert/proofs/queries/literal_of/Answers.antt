use Rattle.std.proofs.Common.{arith}
use Rattle.std.proofs.lemmas.Grind.{common_steps}
use Rattle.lv_cert.proofs.LiteralWords.{literal_none}
use Rattle.lv_cert.proofs.queries.literal_of.Goals as goal

pub returns-then-is_empty : goal.returns-then-is_empty
returns-then-is_empty c = λ a f e. literal_none c.args.letters.now c.args.low c.args.vars (omega arith) (grind (arith, common_steps)) a f e
