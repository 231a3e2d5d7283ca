use Rattle.std.proofs.Common.{◌≡◌, arith, map, sym, ap, ◌∙◌, rules}
use Rattle.std.specs.Prelude.{slice_get, bytes_eq}
use Rattle.std.specs.List.{position}
use Rattle.std.specs.Option.{option_map}
use Rattle.std.proofs.lemmas.Grind.{common_steps}
use Rattle.std.proofs.lemmas.Option.{gets, slice_get-map}
use Rattle.lv_scopes.specs.NameLists.{listed}
use Rattle.lv_symbols.proofs.GivenLaws.{beside_none, beside_some}
use Rattle.lv_symbols.proofs.givens.Givens.get.Goals as goal

pub returns-in-None : goal.returns-in-None
returns-in-None c =
    sym (beside_none (listed c.args.self.now.names) (map (λ v. v.now) c.args.self.now.values.items) c.args.name.now.name
    (ap (λ n. position (bytes_eq n) (listed c.args.self.now.names)) (sym c.bytes.ensures) ∙ sym c.find.ensures ∙ c.in-None.is))

pub returns-in-Some : goal.returns-in-Some
returns-in-Some c =
    let u : c.copied.result ≡ slice_get c.args.self.now.values.items c.in-Some.index = first_of (search rules, grind (arith, common_steps, gets)) in
    ap (option_map (λ v. v.now)) u ∙ sym (slice_get-map (λ v. v.now) c.args.self.now.values.items c.in-Some.index) ∙
    beside_some (listed c.args.self.now.names) (map (λ v. v.now) c.args.self.now.values.items) c.args.name.now.name c.in-Some.index
    (ap (λ n. position (bytes_eq n) (listed c.args.self.now.names)) (sym c.bytes.ensures) ∙ sym c.find.ensures ∙ c.in-Some.is)
