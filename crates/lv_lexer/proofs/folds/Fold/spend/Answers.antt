use Rattle.std.proofs.Common.{refl}
use Rattle.lv_lexer.proofs.folds.Fold.spend.Goals as goal

pub returns-in-Ok : goal.returns-in-Ok
returns-in-Ok c = λ ms k. record { reading = c.in-Ok.ensures ms k; macros = k; branches = refl; taken = refl }

pub returns-in-Err : goal.returns-in-Err
returns-in-Err c = λ ms k. c.in-Err.ensures ms k
