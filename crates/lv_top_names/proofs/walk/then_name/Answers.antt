use Rattle.std.proofs.Common.{ℕ, List, true, false, ap, sym, ◌∙◌, Bor}
use Rattle.std.specs.Prelude.{codes}
use Rattle.std.specs.Option.{option_map}
use Rattle.lv_top_names.specs.Walking.{behind_some}
use Rattle.lv_top_names.proofs.Pieces.{escaped, simple-name}
use Rattle.lv_top_names.proofs.walk.then_name.Goals as goal

pub returns-then-is_simple : goal.returns-then-is_simple
returns-then-is_simple c =
    c.then.ensures ∙ simple-name c.args.name.now true (option_map (λ (x : Bor (List ℕ)). x.now) c.args.text) (sym c.is_simple.ensures ∙ c.if-is_simple.true)

pub returns-else-is_simple : goal.returns-else-is_simple
returns-else-is_simple c =
    let t = option_map (λ (x : Bor (List ℕ)). x.now) c.args.text in
    c.then-else-is_simple-3.ensures ∙
    (ap (behind_some (codes " ")) (c.then-else-is_simple-2.ensures ∙ ap (behind_some c.args.name.now) c.then-else-is_simple.ensures) ∙
    (escaped c.args.name.now t ∙ simple-name c.args.name.now false t (sym c.is_simple.ensures ∙ c.if-is_simple.false)))
