use Rattle.std.proofs.Common.{refl, ap, ◌∙◌, ◌∷◌, if◌then◌else◌, not}
use Rattle.lv_ast.specs.Folds.{opened, is_read}
use Rattle.lv_lexer.specs.Shown.{top_first}
use Rattle.lv_lexer.proofs.StepLaws.{stepped_branch}
use Rattle.lv_lexer.proofs.folds.Fold.begin_as.Goals as goal

pub returns-in-Ok : goal.returns-in-Ok
returns-in-Ok c = λ ms k.
    stepped_branch c.args.self.now c.open.new.self _ c.name_count.result c.args.self.now.branches c.opened_branch-branch.result c.in-Ok.ensures.ok refl k
    (ap (λ b. b ∷ top_first c.args.self.now.branches) (c.opened_branch-branch.ensures
    ∙ (ap (λ r. opened r c.holds.result) c.is_read-reads.ensures
    ∙ ap (opened (is_read (top_first c.args.self.now.branches))) (c.holds.ensures ∙ ap (λ b. if c.args.wanted then b else not b) (c.knows-known.ensures ms k)))))
    c.name_count.ensures
