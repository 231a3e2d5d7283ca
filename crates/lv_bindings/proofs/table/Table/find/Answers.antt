use Rattle.std.proofs.Common.{◌≡◌, sym, ap, ◌∙◌, arith, rules}
use Rattle.std.specs.Prelude.{slice_get}
use Rattle.std.proofs.lemmas.Grind.{common_steps}
use Rattle.std.proofs.lemmas.Option.{gets}
use Rattle.lv_bindings.specs.Tables.{bound_by}
use Rattle.lv_bindings.proofs.table.Table.find.Goals as goal

pub returns-in-None : goal.returns-in-None
returns-in-None c = ap (bound_by c.args.self.now.bindings.items) (sym c.in-None.is ∙ c.find.ensures)

pub returns-in-Some : goal.returns-in-Some
returns-in-Some c =
    let e : c.copied.result ≡ slice_get c.args.self.now.bindings.items c.in-Some.number = first_of (search rules, grind (arith, common_steps, gets)) in
    e ∙ ap (bound_by c.args.self.now.bindings.items) (sym c.in-Some.is ∙ c.find.ensures)
