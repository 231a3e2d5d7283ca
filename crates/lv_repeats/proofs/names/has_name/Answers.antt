use Rattle.std.proofs.Common.{sym, ◌∙◌}
use Rattle.lv_scopes.specs.NameLists.{listed}
use Rattle.lv_repeats.proofs.Tabled.{absent, present}
use Rattle.lv_repeats.proofs.names.has_name.Goals as goal

pub returns-in-None : goal.returns-in-None
returns-in-None c = sym (absent (listed c.args.names.now) c.args.name.now (sym c.find.ensures ∙ c.in-None.is))

pub returns-in-Some : goal.returns-in-Some
returns-in-Some c = sym (present (listed c.args.names.now) c.args.name.now c.in-Some.field-0 (sym c.find.ensures ∙ c.in-Some.is))
