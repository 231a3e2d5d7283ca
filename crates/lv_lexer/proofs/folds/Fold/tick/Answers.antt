use Rattle.std.proofs.Common.{subst, ap, ◌∙◌}
use Rattle.lv_ast.specs.Folds.{tick_step, directive_of}
use Rattle.lv_lexer.specs.Shown.{top_first}
use Rattle.lv_lexer.specs.Steps.{Steps}
use Rattle.lv_lexer.proofs.folds.Fold.tick.Goals as goal

pub returns : goal.returns
returns c = λ ms k.
    subst (λ d. Steps c.args.self.now (tick_step c.args.text.now ms (top_first c.args.self.now.branches) c.args.token c.args.after.now d) c.tick_as.result c.tick_as.new.self)
    (c.directive_of-directive.ensures ∙ ap directive_of c.word.ensures) (c.tick_as.ensures ms k)
