use Rattle.std.proofs.Common.{ap, sym, subst}
use Rattle.lv_ast.specs.Folds.{with_name}
use Rattle.lv_lexer.specs.Shown.{top_first}
use Rattle.lv_lexer.specs.Steps.{Steps, by_name}
use Rattle.lv_lexer.proofs.StepLaws.{stops_at}
use Rattle.lv_lexer.proofs.folds.Fold.named.Goals as goal

pub returns-in-Some : goal.returns-in-Some
returns-in-Some c = λ ms k.
    let bs = top_first c.args.self.now.branches in
    let f = by_name c.args.directive c.args.text.now ms bs c.args.token c.args.after.now in
    subst (λ n. Steps c.args.self.now (with_name c.args.text.now ms bs c.args.token c.args.after.now f n) c.with_name.result c.with_name.new.self) c.in-Some.ensures (c.with_name.ensures ms k)

pub returns-in-None : goal.returns-in-None
returns-in-None c = λ ms k.
    let bs = top_first c.args.self.now.branches in
    let f = by_name c.args.directive c.args.text.now ms bs c.args.token c.args.after.now in
    stops_at c.args.self.now.out _ _ (ap (λ n. (with_name c.args.text.now ms bs c.args.token c.args.after.now f n).reading) (sym c.in-None.ensures))
