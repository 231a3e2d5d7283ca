use Rattle.std.proofs.Common.{ℕ, List, ap, sym, ◌∙◌, Bor}
use Rattle.std.specs.Option.{option_map}
use Rattle.lv_ast.specs.declared.expr.PathStep.{PathStep}
use Rattle.lv_ast.specs.Names.{spelled, steps_text, path_text}
use Rattle.lv_top_names.specs.Walking.{behind, behind_some}
use Rattle.lv_top_names.proofs.Pieces.{behind-append, ended}
use Rattle.lv_top_names.proofs.walk.is_path.Goals as goal

pub returns : goal.returns
returns c =
    let now = λ (x : Bor (List ℕ)). x.now in
    let p = c.args.path.now in
    c.is_end.ensures ∙
    ended (path_text p) c.args.text.now (option_map now c.then_name-rest.result)
    (c.then_name-rest.ensures ∙
    (ap (λ (n : List ℕ). behind_some (spelled n) (option_map now c.behind_steps.result)) c.bytes.ensures ∙
    (ap (behind_some (spelled p.name)) (c.behind_steps.ensures ∙ ap (λ (ss : List PathStep). behind (steps_text ss) c.args.text.now) c.as_slice.ensures) ∙
    sym (behind-append (steps_text p.steps) (spelled p.name) c.args.text.now))))
