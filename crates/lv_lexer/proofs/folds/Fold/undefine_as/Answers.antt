use Rattle.std.proofs.Common.{refl}
use Rattle.lv_lexer.proofs.StepLaws.{keeps_undefine, stepped_still}
use Rattle.lv_lexer.proofs.folds.Fold.undefine_as.Goals as goal

pub returns-in-Ok : goal.returns-in-Ok
returns-in-Ok c = λ ms k. stepped_still c.args.self.now _ _ c.name_count.result refl refl (keeps_undefine c.args.self.now.macros c.set.new.self ms c.args.name.now c.in-Ok.ensures.ok k) refl c.name_count.ensures
