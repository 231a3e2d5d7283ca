use Rattle.std.proofs.Common.{sym, ap, ◌∙◌, arith}
use Rattle.std.specs.Option.{option_copied}
use Rattle.std.proofs.Common.{◌≡◌, rules}
use Rattle.std.specs.Prelude.{slice_get}
use Rattle.std.proofs.lemmas.Grind.{common_steps}
use Rattle.std.proofs.lemmas.Option.{gets}
use Rattle.lv_scopes.proofs.ByName.{found-Some, found-None}
use Rattle.lv_scopes.proofs.modules.Modules.find.Goals as goal

pub returns-in_err-index : goal.returns-in_err-index
returns-in_err-index c =
    ap option_copied c.from_residual.ensures ∙
    sym (found-None (λ k. k.items) c.args.self.now.names.keys c.args.modules.now c.args.name.now c.requires.names
    (sym c.get_index_of.ensures.index ∙ c.in_err-index.was))

pub returns : goal.returns
returns c =
    let t = found-Some (λ k. k.items) c.args.self.now.names.keys c.args.modules.now c.args.name.now c.requires.names c.in_ok-index.index
    (sym c.get_index_of.ensures.index ∙ c.in_ok-index.was) in
    let u : option_copied c.get.result ≡ slice_get c.args.modules.now c.in_ok-index.index = first_of (search rules, grind (arith, common_steps, gets)) in
    u ∙ t
