use Rattle.std.proofs.Common.{refl, sym, subst, ◌∙◌, if◌then◌else◌}
use Rattle.lv_ast.specs.Folds.{passed}
use Rattle.lv_lexer.specs.Shown.{top_first}
use Rattle.lv_lexer.specs.Steps.{Steps, Stepped, read_step}
use Rattle.lv_lexer.proofs.StepLaws.{stepped_still}
use Rattle.lv_lexer.proofs.folds.Fold.if_read.Goals as goal

pub returns-then-is_read : goal.returns-then-is_read
returns-then-is_read c = λ ms k.
    let bs = top_first c.args.self.now.branches in
    subst (λ b. Steps c.args.self.now (if b then read_step c.args.directive c.args.text.now ms bs c.args.token c.args.after.now else passed c.args.text.now ms bs c.args.token c.args.after.now 0 bs) c.read_tick.result c.read_tick.new.self)
    (sym c.if-is_read.true ∙ c.is_read.ensures) (c.read_tick.ensures ms k)

pub returns-else-is_read : goal.returns-else-is_read
returns-else-is_read c = λ ms k.
    let bs = top_first c.args.self.now.branches in
    subst (λ b. Stepped c.args.self.now c.args.self.now (if b then read_step c.args.directive c.args.text.now ms bs c.args.token c.args.after.now else passed c.args.text.now ms bs c.args.token c.args.after.now 0 bs) 0)
    (sym c.if-is_read.false ∙ c.is_read.ensures) (stepped_still c.args.self.now c.args.self.now _ 0 refl refl k refl refl)
