use Rattle.std.proofs.Common.{refl, sym, subst}
use Rattle.lv_lexer.specs.Shown.{top_first}
use Rattle.lv_lexer.specs.Steps.{Stepped, read_step}
use Rattle.lv_lexer.proofs.StepLaws.{stepped_still}
use Rattle.lv_lexer.proofs.folds.Fold.read_tick.Goals as goal

pub returns-in-Dropped : goal.returns-in-Dropped
returns-in-Dropped c = λ ms k.
    subst (λ d. Stepped c.args.self.now c.args.self.now (read_step d c.args.text.now ms (top_first c.args.self.now.branches) c.args.token c.args.after.now) c.line_count.result) (sym c.in-Dropped.is)
    (stepped_still c.args.self.now c.args.self.now _ c.line_count.result refl refl k refl c.line_count.ensures)
