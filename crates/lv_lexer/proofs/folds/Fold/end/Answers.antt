use Rattle.std.proofs.Common.{refl, ap, sym, subst}
use Rattle.lv_ast.specs.Folds.{endif_step}
use Rattle.lv_lexer.specs.Shown.{top_first}
use Rattle.lv_lexer.specs.Steps.{Stepped}
use Rattle.lv_lexer.proofs.Branches.{top_after}
use Rattle.lv_lexer.proofs.StepLaws.{stops_at, stepped_still}
use Rattle.lv_lexer.proofs.folds.Fold.end.Goals as goal

pub returns-in-None : goal.returns-in-None
returns-in-None c = λ ms k.
    let bs = top_first c.args.self.now.branches in
    stops_at c.args.self.now.out _ _ (ap (λ l. (endif_step c.args.text.now ms bs c.args.token c.args.after.now (top_first l)).reading) c.in-None.ensures.0)

pub returns-in-Some : goal.returns-in-Some
returns-in-Some c = λ ms k.
    let bs = top_first c.args.self.now.branches in
    subst (λ s. Stepped c.args.self.now (record c.args.self.now { branches = c.pop.new.self }) s 0)
    (sym (ap (λ l. endif_step c.args.text.now ms bs c.args.token c.args.after.now l) (top_after c.args.self.now.branches c.pop.new.self _ c.in-Some.ensures)))
    (stepped_still c.args.self.now (record c.args.self.now { branches = c.pop.new.self }) _ 0 refl refl k refl refl)
