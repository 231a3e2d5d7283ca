use Rattle.std.proofs.Common.{ℕ, List, ap, ◌∙◌, Bor}
use Rattle.std.specs.Option.{option_map}
use Rattle.lv_ast.specs.Names.{spelled}
use Rattle.lv_top_names.specs.Walking.{behind_some}
use Rattle.lv_top_names.proofs.Pieces.{step-none, step-some}
use Rattle.lv_top_names.proofs.walk.then_step.Goals as goal

pub returns-in-None : goal.returns-in-None
returns-in-None c =
    let t = option_map (λ (x : Bor (List ℕ)). x.now) c.args.text in
    c.then_name-rest.ensures ∙ (ap (λ (n : List ℕ). behind_some (spelled n) t) c.bytes.ensures ∙ step-none c.args.step.now t c.in-None.is)

pub returns-in-Some : goal.returns-in-Some
returns-in-Some c =
    let t = option_map (λ (x : Bor (List ℕ)). x.now) c.args.text in
    c.then_index.ensures ∙
    step-some c.args.step.now c.in-Some.index t (option_map (λ (x : Bor (List ℕ)). x.now) c.then_name-rest.result) c.in-Some.is
    (c.then_name-rest.ensures ∙ ap (λ (n : List ℕ). behind_some (spelled n) t) c.bytes.ensures)
