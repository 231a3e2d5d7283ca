use Rattle.std.proofs.Common.{refl, ap, ◌∙◌, sym, ◌∷◌, subst, true, false}
use Rattle.lv_ast.specs.Folds.{elsif_step, elsif_branch}
use Rattle.lv_lexer.specs.Shown.{top_first, branch_shown}
use Rattle.lv_lexer.specs.Steps.{Stepped}
use Rattle.lv_lexer.proofs.Branches.{top_after}
use Rattle.lv_lexer.proofs.StepLaws.{stops_at, stepped_branch, elsif_if}
use Rattle.lv_lexer.proofs.folds.Fold.elsif_as.Goals as goal

pub returns-in-None : goal.returns-in-None
returns-in-None c = λ ms k.
    let bs = top_first c.args.self.now.branches in
    stops_at c.args.self.now.out _ _ (ap (λ l. (elsif_step c.args.text.now ms bs c.args.token c.args.after.now (top_first l) c.args.name.now).reading) c.in-None.ensures.0)

pub returns-then-branch : goal.returns-then-branch
returns-then-branch c = λ ms k.
    let bs = top_first c.args.self.now.branches in
    stops_at c.args.self.now.out _ _
    (ap (λ l. (elsif_step c.args.text.now ms bs c.args.token c.args.after.now l c.args.name.now).reading) (top_after c.args.self.now.branches c.pop.new.self c.in-Some.branch c.in-Some.ensures)
    ∙ ap (λ s. s.reading) (elsif_if c.args.text.now ms bs c.args.token c.args.after.now (branch_shown c.in-Some.branch) (top_first c.pop.new.self) c.args.name.now true c.if-branch.true))

pub returns-in-Ok : goal.returns-in-Ok
returns-in-Ok c = λ ms k.
    let bs = top_first c.args.self.now.branches in
    subst (λ s. Stepped c.args.self.now c.open.new.self s c.name_count.result)
    (sym (ap (λ l. elsif_step c.args.text.now ms bs c.args.token c.args.after.now l c.args.name.now) (top_after c.args.self.now.branches c.pop.new.self c.in-Some.branch c.in-Some.ensures)
    ∙ elsif_if c.args.text.now ms bs c.args.token c.args.after.now (branch_shown c.in-Some.branch) (top_first c.pop.new.self) c.args.name.now false c.if-branch.false))
    (stepped_branch c.args.self.now c.open.new.self _ c.name_count.result c.pop.new.self c.elsif_branch.result c.in-Ok.ensures.ok refl k
    (ap (λ x. x ∷ top_first c.pop.new.self) (c.elsif_branch.ensures ∙ ap (λ h. elsif_branch h (branch_shown c.in-Some.branch)) (c.knows-known.ensures ms k)))
    c.name_count.ensures)
