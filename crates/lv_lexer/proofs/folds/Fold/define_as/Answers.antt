use Rattle.std.proofs.Common.{ap, ◌∙◌, sym, refl, subst, true, false}
use Rattle.lv_ast.specs.Folds.{can_define, rest, line_of}
use Rattle.lv_lexer.specs.Shown.{top_first}
use Rattle.lv_lexer.specs.Steps.{Stepped}
use Rattle.lv_lexer.proofs.StepLaws.{stops_at, keeps_define, stepped_still, defined_if}
use Rattle.lv_lexer.proofs.folds.Fold.define_as.Goals as goal

pub returns-then-not-can_define : goal.returns-then-not-can_define
returns-then-not-can_define c = λ ms k.
    stops_at c.args.self.now.out _ _ (ap (λ s. s.reading) (defined_if c.args.text.now ms (top_first c.args.self.now.branches) c.args.token c.args.after.now c.args.name.now false
    (ap (can_define c.args.text.now c.args.name.now) (sym (c.as_slice.ensures ∙ c.in-Ok.ensures.ok)) ∙ (sym c.can_define.ensures ∙ c.if-not-can_define.true))))

pub returns-in-Ok-set : goal.returns-in-Ok-set
returns-in-Ok-set c = λ ms k.
    subst (λ s. Stepped c.args.self.now (record c.args.self.now { macros = c.set.new.self }) s c.line_count.result)
    (sym (defined_if c.args.text.now ms (top_first c.args.self.now.branches) c.args.token c.args.after.now c.args.name.now true
    (ap (can_define c.args.text.now c.args.name.now) (sym (c.as_slice.ensures ∙ c.in-Ok.ensures.ok)) ∙ (sym c.can_define.ensures ∙ c.if-not-can_define.false))))
    (stepped_still c.args.self.now (record c.args.self.now { macros = c.set.new.self }) _ c.line_count.result refl refl
    (keeps_define c.args.self.now.macros c.set.new.self ms c.args.name.now _ (rest (line_of c.args.after.now)) c.in-Ok-set.ensures.ok (c.without_first-body.ensures ∙ ap rest c.in-Ok.ensures.ok) k)
    refl c.line_count.ensures)
