use Rattle.std.proofs.Common.{refl, sym, subst, ◌∙◌, true, false}
use Rattle.lv_lexer.specs.Readings.{done, IsFoldAnswer}
use Rattle.lv_ast.specs.Folds.{followed}
use Rattle.lv_lexer.specs.Shown.{top_first}
use Rattle.lv_lexer.specs.Steps.{Steps, Stepped}
use Rattle.lv_lexer.proofs.StepLaws.{stepped_still, step_if}
use Rattle.lv_lexer.proofs.folds.Fold.read.Goals as goal

pub returns-then-is_tick : goal.returns-then-is_tick
returns-then-is_tick c = λ ms k.
    subst (λ s. Steps c.args.self.now s c.tick.result c.tick.new.self)
    (sym (step_if c.args.text.now ms (top_first c.args.self.now.branches) c.args.token c.args.after.now true _ (sym c.is_tick.ensures ∙ c.if-is_tick.true) refl)) (c.tick.ensures ms k)

pub returns-then-passes : goal.returns-then-passes
returns-then-passes c = λ ms k.
    subst (λ s. Stepped c.args.self.now c.args.self.now s 0)
    (sym (step_if c.args.text.now ms (top_first c.args.self.now.branches) c.args.token c.args.after.now false true (sym c.is_tick.ensures ∙ c.if-is_tick.false) (sym c.passes.ensures ∙ c.if-passes.true)))
    (stepped_still c.args.self.now c.args.self.now _ 0 refl refl k refl refl)

pub returns-in-Ok : goal.returns-in-Ok
returns-in-Ok c = λ ms k.
    subst (λ s. Stepped c.args.self.now (record c.args.self.now { out = c.give.new.self }) s 0)
    (sym (step_if c.args.text.now ms (top_first c.args.self.now.branches) c.args.token c.args.after.now false false (sym c.is_tick.ensures ∙ c.if-is_tick.false) (sym c.passes.ensures ∙ c.if-passes.false)))
    (record { reading = c.in-Ok.ensures; macros = k; branches = refl; taken = refl })

pub returns-in-Err : goal.returns-in-Err
returns-in-Err c = λ ms k.
    subst (λ s. IsFoldAnswer (followed (done c.args.self.now.out) s.reading) c.in-Err.error)
    (sym (step_if c.args.text.now ms (top_first c.args.self.now.branches) c.args.token c.args.after.now false false (sym c.is_tick.ensures ∙ c.if-is_tick.false) (sym c.passes.ensures ∙ c.if-passes.false)))
    c.in-Err.ensures
